use Rattle.std.proofs.Common.{ℕ, ◌+◌, length, inl, inr, ap, ◌∙◌, arith}
use Rattle.std.proofs.lemmas.Bool.{cases_lt}
use Rattle.mf_code.specs.Rows.{column}
use Rattle.mf_code.proofs.Lists.{length-list_of}
use Rattle.mf_kernel.specs.Dots.{dot}
use Rattle.morph_codes.specs.Decoded.{row_at}
use Rattle.morph_codes.specs.Handed.{bytes_of}
use Rattle.morph_codes.proofs.applying.fill_by_rows.Goals as goal

pub loop-done-preserved : goal.loop-done-preserved
loop-done-preserved c =
    let a = c.args in
    let done = c.loop-done.done in
    let more = c.fill_some-done.result in
    let made = c.fill_some-done.ensures in
    let inv = c.loop-done.invariant in
    let same = inv.1 in
    let row = λ (i : ℕ). row_at (length a.pieces.now) a.rows.now i in (
      omega (arith, made.within),
      made.length ∙ same,
      (λ i lt. elim (cases_lt i done) [
        | inl below ↦ ap length (made.below i below) ∙ inv.2 i (omega (arith, made.length))
        | inr from ↦ elim (cases_lt i (done + more)) [
          | inl within ↦ ap length (made.made i from within)
              ∙ length-list_of a.size (λ x. dot (row i) (column x (bytes_of a.pieces.now)))
          | inr above ↦ ap length (made.above i above) ∙ inv.2 i (omega (arith, made.length))
        ]
      ]),
      (λ i lt. elim (cases_lt i done) [
        | inl below ↦ made.below i below ∙ inv.3 i below
        | inr from ↦ made.made i from lt
      ]),
    )
