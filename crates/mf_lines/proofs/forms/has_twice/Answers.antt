use Rattle.std.proofs.Common.{◌≡◌, ℕ, ◌∙◌, ◌++◌, ◌∷◌, [], ap, sym, suc, take, drop, get_or, true, false}
use Rattle.std.proofs.lemmas.Bool.{cond-false}
use Rattle.std.proofs.lemmas.List.{take_more}
use Rattle.std.proofs.Math.Seq.{split_at}
use Rattle.mf_lines.specs.Lines.{has_twice}
use Rattle.mf_lines.proofs.ServerLemmas.{has, twice_push, twice_found}
use Rattle.mf_lines.proofs.forms.has_twice.Goals as goal

pub loop-n-preserved : goal.loop-n-preserved
loop-n-preserved c =
    let numbers = c.args.numbers.now in
    let i = c.loop-n.n-index in
    let n : ℕ = get_or numbers i 0 in
    let new : has c.loop-n.seen.keys n ≡ false = sym c.contains.ensures ∙ c.if-contains.false in
    let more = take_more numbers i 0 c.loop-n-test.true in (
      c.in_ok-insert.ensures.keys ∙ cond-false _ _ _ new ∙ ap (λ ks. ks ++ n ∷ []) c.loop-n.invariant.0 ∙ sym more,
      ap has_twice more
          ∙ twice_push (take i numbers) n c.loop-n.invariant.1 (ap (λ ks. has ks n) (sym c.loop-n.invariant.0) ∙ new),
    )

pub returns-then-contains : goal.returns-then-contains
returns-then-contains c =
    let numbers = c.args.numbers.now in
    let i = c.loop-n.n-index in
    let n : ℕ = get_or numbers i 0 in
    let found : has c.loop-n.seen.keys n ≡ true = sym c.contains.ensures ∙ c.if-contains.true in
    sym (ap has_twice (split_at numbers i 0 c.loop-n-test.true)
    ∙ twice_found (take i numbers) n (drop (suc i) numbers) (ap (λ ks. has ks n) (sym c.loop-n.invariant.0) ∙ found))
