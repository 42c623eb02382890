use Rattle.std.proofs.Common.{◌≡◌, ℕ, ◌*◌, List, ◌++◌, length, ap, subst, ◌∙◌, arith}
use Rattle.mf_decode.specs.Decoding.{Plan}
use Rattle.mf_decode.specs.Rows.{IsDecodingRow}
use Rattle.morph_codes.specs.Handed.{plan_of}
use Rattle.morph_codes.proofs.Losses.{row_long}
use Rattle.morph_codes.proofs.Kept.{rows_more}
use Rattle.morph_codes.proofs.decoding.rows_of.Goals as goal

pub loop-e-preserved : goal.loop-e-preserved
loop-e-preserved c =
    let a = c.args in
    let plan = plan_of a.points.now a.count a.lost.now a.had.now in
    let e = c.loop-e.e in
    let row = c.in_ok-row.row.items in
    let rows = c.loop-e.rows.items in
    let is : IsDecodingRow plan e a.count row =
    subst (λ (p : Plan). IsDecodingRow p e a.count row) c.in_ok-plan.ensures.plan c.in_ok-row.ensures in
    rows_more (λ (i : ℕ) (r : List ℕ). IsDecodingRow plan i a.count r) a.count e rows row
    c.extend_from_slice.new.self.items c.loop-e.invariant.0 (row_long plan e a.count row is c.requires.erasure)
    (c.in_ok-extend_from_slice.ensures.items ∙ ap (λ (l : List ℕ). rows ++ l) c.deref.ensures.value) is
    c.loop-e.invariant.1

pub returns-clause-rows : goal.returns-clause-rows
returns-clause-rows c =
    let a = c.args in
    let all : c.loop-e.e ≡ length a.lost.now = omega arith in
    record {
      long = c.loop-e.invariant.0 ∙ ap (λ (k : ℕ). k * a.count) all;
      row = λ e lt. c.loop-e.invariant.1 e (omega arith);
    }
