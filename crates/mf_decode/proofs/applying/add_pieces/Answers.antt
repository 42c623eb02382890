use Rattle.std.proofs.Common.{◌≡◌, ℕ, ◌+◌, ◌<◌, ◌≤◌, List, All, length, get_or, Option, bit_xor, sym, ap₂, ◌∙◌, subst}
use Rattle.std.proofs.Common.{arith}
use Rattle.std.specs.Prelude.{IfSome}
use Rattle.mf_code.specs.Field.{times}
use Rattle.mf_code.specs.Sums.{sum_below}
use Rattle.mf_decode.specs.Decoding.{column_of}
use Rattle.mf_decode.specs.Columns.{there, weight_of, row_entries}
use Rattle.mf_decode.proofs.Blocks.{nothing_added, term_added, there_at, one_more}
use Rattle.mf_decode.proofs.applying.add_pieces.Goals as goal

pub loop-t-init : goal.loop-t-init
loop-t-init c =
    let a = c.args in
    record {
      sums = λ x lt. nothing_added (get_or a.out.now x 0)
          (λ (t : ℕ). times (weight_of (row_entries a.inverse.now a.e) a.points.now t)
          (get_or (there (column_of (a.start + x) a.pieces.now)) t 0));
      bytes = λ k d lt. absurd (omega arith);
    }

pub add_piece-requires : goal.add_piece-requires
add_piece-requires c =
    let a = c.args in
    let there = c.requires.columns c.loop-t.t c.index-pieces-t.result c.loop-t-test.true in
    subst (λ (n : ℕ). IfSome c.index-pieces-t.result (λ l. a.start + n ≤ length l)) (sym c.loop-t.auto.out)
    (subst (λ (o : Option (List ℕ)). IfSome o (λ l. a.start + length a.out.now ≤ length l)) (sym c.index-pieces-t.is)
    there)

pub loop-t-preserved : goal.loop-t-preserved
loop-t-preserved c =
    let a = c.args in
    let t = c.loop-t.t in
    let pieces = a.pieces.now in
    let piece = c.index-pieces-t.result in
    record {
      sums = λ x lt.
          let terms : ℕ
          → ℕ = λ k. times (weight_of (row_entries a.inverse.now a.e) a.points.now k)
          (get_or (there (column_of (a.start + x) pieces)) k 0) in
          let near : x < length c.loop-t.out = (let n = c.add_piece.ensures.length in omega arith) in
          c.add_piece.ensures.sum x near
          ∙ term_added (get_or a.out.now x 0) t (get_or c.loop-t.out x 0) terms _ (c.loop-t.invariant.sums x near)
          (ap₂ times c.weight.ensures
          (sym (there_at (a.start + x) pieces t piece c.loop-t-test.true c.index-pieces-t.is)));
      bytes = one_more (λ (o : Option (List ℕ)). IfSome o (λ chunk. All (λ b. b < 256) chunk)) t pieces piece
          c.loop-t-test.true c.index-pieces-t.is c.add_piece.ensures.bytes c.loop-t.invariant.bytes;
    }

pub returns-clause-sum : goal.returns-clause-sum
returns-clause-sum c = λ x lt.
    let a = c.args in
    let all : c.loop-t.t ≡ length a.pieces.now = omega arith in
    let kept = c.loop-t.auto.out in
    subst (λ (n : ℕ). get_or c.loop-t.out x 0
    ≡ bit_xor (get_or a.out.now x 0)
    (sum_below n
    (λ (t : ℕ). times (weight_of (row_entries a.inverse.now a.e) a.points.now t)
    (get_or (there (column_of (a.start + x) a.pieces.now)) t 0)))) all
    (c.loop-t.invariant.sums x (omega arith))

pub returns-clause-bytes : goal.returns-clause-bytes
returns-clause-bytes c = λ k d lt. c.loop-t.invariant.bytes k d (omega arith)
