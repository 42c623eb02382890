use Rattle.std.proofs.Common.{◌≡◌, ◌+◌, ◌-◌, ◌*◌, ◌<◌, ◌≤◌, ap, ⊎_elim, arith}
use Rattle.std.proofs.lemmas.Bool.{cases_lt}
use Rattle.mf_shape.specs.Stages.{max_width}
use Rattle.mf_shape.proofs.Widths.{max_width-le-limit}
use Rattle.mf_places.specs.Facts.{chunks_of}
use Rattle.mf_places.specs.Names.{stripes_of, parities_of}
use Rattle.mf_places.specs.Numbers.{first_in}
use Rattle.mf_places.proofs.Counts.{first_in-more, parity-parts}
use Rattle.mf_places.proofs.Names.{count_of-is}
use Rattle.mf_places.proofs.Book.parity_name.Goals as goal

pub loop-width-preserved : goal.loop-width-preserved
loop-width-preserved c =
    let b = c.args.self.now in
    let width = c.loop-width.width in
    let wide = max_width-le-limit c.first.ensures.kept.shape.chain in
    let more : width + 1 ≤ max_width b.shape.stages = ⊎_elim
    (λ less. omega arith)
    (λ last.
    let e : width + 1 ≡ max_width b.shape.stages + 1 = omega (arith, c.loop-width.invariant.within) in
    let same = ap (first_in (chunks_of b) b.shape.stages) e in
    absurd (omega (arith, count_of-is b, c.first.ensures.value, c.loop-width-test.true, c.requires.below)))
    (cases_lt width (max_width b.shape.stages)) in
    record { behind = omega (arith, c.first.ensures.value, c.loop-width-test.true); within = more; small = omega arith }

pub returns-clause-had : goal.returns-clause-had
returns-clause-had c =
    let b = c.args.self.now in
    let width = c.loop-width.width in
    let more = first_in-more (chunks_of b) b.shape.stages width in
    let below : c.args.n - c.first-2.result < stripes_of b width * parities_of b width =
    omega (arith, c.first.ensures.value, c.first-2.ensures.value, c.loop-width-test.false) in
    rw c.parities-parities.ensures.value
    (parity-parts (stripes_of b width) (parities_of b width) (c.args.n - c.first-2.result) below)
