use Rattle.std.proofs.Common.{◌≡◌, ℕ, ◌+◌, ◌<◌, ◌≤◌, List, All, length, get_or, bit_xor, refl, sym, ap, ap₂, ◌∙◌, subst}
use Rattle.std.proofs.Common.{arith}
use Rattle.mf_code.specs.Field.{times}
use Rattle.mf_code.specs.Rows.{column}
use Rattle.mf_code.specs.Sums.{sum_below}
use Rattle.mf_matrix.specs.Matrix.{entry}
use Rattle.mf_kernel.proofs.Blocks.{column_at}
use Rattle.mf_decode.proofs.Blocks.{nothing_added, term_added, added_at, one_more}
use Rattle.mf_decode.proofs.applying.add_parities.Goals as goal

pub loop-j-init : goal.loop-j-init
loop-j-init c = record {
  sums = λ x lt. nothing_added (get_or c.args.out.now x 0)
      (λ (j : ℕ). times (entry c.args.inverse.now c.args.e j)
      (get_or (column (c.args.start + x) c.args.parities.now) j 0));
  bytes = λ k d lt. absurd (omega arith);
}

pub loop-j-preserved : goal.loop-j-preserved
loop-j-preserved c =
    let j = c.loop-j.j in
    let out = c.loop-j.out in
    let start = c.args.start in
    let parities = c.args.parities.now in
    let parity = c.index-parities-j.result in
    let bytes = c.bytes-bytes.result.now in
    let factor = c.at.result in
    let same : bytes ≡ parity = c.bytes-bytes.ensures.same in
    let is : parity ≡ get_or parities j parity = c.index-parities-j.is in
    let there : start + length c.args.out.now
    ≤ length (get_or parities j parity) = c.requires.columns j parity c.loop-j-test.true in
    let kept = c.loop-j.auto.out in
    let long : start + length out
    ≤ length bytes = subst (λ (n : ℕ). start + n ≤ length bytes) (sym kept)
    (subst (λ (l : List ℕ). start + length c.args.out.now ≤ length l) (sym (same ∙ is)) there) in
    record {
      sums = λ x lt.
          let near : x < length out = (let new = c.add_scaled.auto.dst in omega arith) in
          ap (λ (l : List ℕ). get_or l x 0) c.add_scaled.ensures
          ∙ added_at out bytes factor start (start + length out) x refl long near
          ∙ term_added (get_or c.args.out.now x 0) j (get_or out x 0)
          (λ (k : ℕ). times (entry c.args.inverse.now c.args.e k) (get_or (column (start + x) parities) k 0))
          (times factor (get_or bytes (start + x) 0)) (c.loop-j.invariant.sums x near)
          (ap₂ times c.at.ensures
          (ap (λ (l : List ℕ). get_or l (start + x) 0) same
          ∙ sym (column_at (start + x) parities j parity c.loop-j-test.true is)));
      bytes = one_more (λ (l : List ℕ). All (λ b. b < 256) l) j parities parity c.loop-j-test.true is
          c.bytes-bytes.ensures.bytes c.loop-j.invariant.bytes;
    }

pub returns-clause-sum : goal.returns-clause-sum
returns-clause-sum c = λ x lt.
    let all : c.loop-j.j ≡ length c.args.parities.now = omega arith in
    let kept = c.loop-j.auto.out in
    subst (λ (n : ℕ). get_or c.loop-j.out x 0
    ≡ bit_xor (get_or c.args.out.now x 0)
    (sum_below n
    (λ (j : ℕ). times (entry c.args.inverse.now c.args.e j)
    (get_or (column (c.args.start + x) c.args.parities.now) j 0)))) all
    (c.loop-j.invariant.sums x (omega arith))

pub returns-clause-bytes : goal.returns-clause-bytes
returns-clause-bytes c = λ k d lt. c.loop-j.invariant.bytes k d (omega arith)
