use Rattle.std.proofs.Common.{◌≡◌, ap, ◌∙◌, refl, arith}
use Rattle.mf_places.specs.declared.Name.TheVariants as name
use Rattle.mf_places.specs.Facts.{chunks_of}
use Rattle.mf_places.proofs.Names.{name_at-number, name_at-copy}
use Rattle.mf_places.proofs.Book.name.Goals as goal

pub returns-then-n-self-clause-value : goal.returns-then-n-self-clause-value
returns-then-n-self-clause-value c =
    let b = c.args.self.now in
    let chunks : c.self.inside.chunks ≡ chunks_of b = c.self.invariant.chunks ∙ ap chunks_of c.self.view_is in
    name_at-number b (name.Data c.args.n) c.args.n (omega (arith, c.if-n-self.true)) refl

pub returns-then-n-first-clause-value : goal.returns-then-n-first-clause-value
returns-then-n-first-clause-value c =
    let b = c.args.self.now in
    let chunks : c.self.inside.chunks ≡ chunks_of b = c.self.invariant.chunks ∙ ap chunks_of c.self.view_is in
    rw chunks (name_at-copy b c.args.n (omega (arith, c.if-n-self.false)) (omega (
      arith,
      c.first.ensures.value,
      c.if-n-first.true,
    )))

pub returns-clause-value : goal.returns-clause-value
returns-clause-value c =
    name_at-number c.args.self.now c.parity_name.result c.args.n c.parity_name.ensures.had c.parity_name.ensures.number
