use Rattle.std.proofs.Common.{◌≡◌, ℕ, ◌+◌, ◌<◌, List, length, get_or, bit_xor, sym, ap, ap₂, ◌∙◌, subst, arith}
use Rattle.std.specs.Int.Bits.{xor_zero_r}
use Rattle.std.proofs.lemmas.Nat.{xor_comm}
use Rattle.std.proofs.lemmas.List.{get_or-replicate}
use Rattle.mf_code.specs.Field.{times}
use Rattle.mf_code.specs.Sums.{sum_below}
use Rattle.mf_code.specs.Rows.{column}
use Rattle.mf_matrix.specs.Matrix.{entry}
use Rattle.mf_decode.specs.Decoding.{Plan, column_of}
use Rattle.mf_decode.specs.Columns.{there, weight_of, row_entries}
use Rattle.mf_decode.specs.Plans.{IsPlan}
use Rattle.mf_decode.proofs.Decoded.{row_is_decoded, piece_bytes, plan_sizes}
use Rattle.mf_decode.proofs.applying.apply_block.Goals as goal

pub add_parities-requires-clause-row : goal.add_parities-requires-clause-row
add_parities-requires-clause-row c =
    let s = plan_sizes c.args.plan.now c.plan.inside.chosen.items c.plan.inside.inverse
    (subst (λ (p : Plan). IsPlan p c.plan.inside.chosen.items c.plan.inside.inverse) c.plan.view_is
    c.plan.invariant) in
    omega (arith, s.rows_are, c.requires.place)

pub add_parities-requires-clause-entries : goal.add_parities-requires-clause-entries
add_parities-requires-clause-entries c =
    let s = plan_sizes c.args.plan.now c.plan.inside.chosen.items c.plan.inside.inverse
    (subst (λ (p : Plan). IsPlan p c.plan.inside.chosen.items c.plan.inside.inverse) c.plan.view_is
    c.plan.invariant) in
    s.columns_are ∙ s.even ∙ sym c.requires.parities

pub add_parities-requires-clause-few : goal.add_parities-requires-clause-few
add_parities-requires-clause-few c =
    let s = plan_sizes c.args.plan.now c.plan.inside.chosen.items c.plan.inside.inverse
    (subst (λ (p : Plan). IsPlan p c.plan.inside.chosen.items c.plan.inside.inverse) c.plan.view_is
    c.plan.invariant) in
    omega (arith, s.few, s.even, c.requires.parities)

pub add_pieces-requires-clause-entries : goal.add_pieces-requires-clause-entries
add_pieces-requires-clause-entries c =
    let s = plan_sizes c.args.plan.now c.plan.inside.chosen.items c.plan.inside.inverse
    (subst (λ (p : Plan). IsPlan p c.plan.inside.chosen.items c.plan.inside.inverse) c.plan.view_is
    c.plan.invariant) in
    s.columns_are ∙ s.chosen_long ∙ ap length (sym c.deref.ensures.value)

pub add_pieces-requires-clause-few_points : goal.add_pieces-requires-clause-few_points
add_pieces-requires-clause-few_points c =
    let s = plan_sizes c.args.plan.now c.plan.inside.chosen.items c.plan.inside.inverse
    (subst (λ (p : Plan). IsPlan p c.plan.inside.chosen.items c.plan.inside.inverse) c.plan.view_is
    c.plan.invariant) in
    omega (arith, s.few, s.chosen_long, ap length c.deref.ensures.value)

pub add_pieces-requires-clause-few : goal.add_pieces-requires-clause-few
add_pieces-requires-clause-few c =
    let narrow = c.plan.invariant.narrow in
    let width : c.plan.inside.width ≡ c.args.plan.now.width = ap (λ (p : Plan). p.width) c.plan.view_is in
    let count = c.requires.count in
    omega arith

pub returns : goal.returns
returns c = λ x lt.
    let a = c.args in
    let chosen = c.plan.inside.chosen.items in
    let m = c.plan.inside.inverse in
    let made : IsPlan a.plan.now chosen m = subst (λ (p : Plan). IsPlan p chosen m) c.plan.view_is c.plan.invariant in
    let zero : get_or c.fill.new.self x 0 ≡ 0 = ap (λ (l : List ℕ). get_or l x 0) (c.fill.ensures.after (λ y e. e))
    ∙ get_or-replicate (length a.out.now) x 0 0 lt in
    let filled = c.fill.ensures.len in
    let first : x < length c.fill.new.self = omega arith in
    let kept = c.add_parities.auto.out in
    let second : x < length c.add_parities.new.out = omega arith in
    let parity_sum : ℕ = sum_below (length a.parities.now)
    (λ j. times (entry m a.e j) (get_or (column (a.start + x) a.parities.now) j 0)) in
    let piece_sum : ℕ = sum_below (length a.pieces.now)
    (λ t. times (weight_of (row_entries m a.e) c.deref.result.now t)
    (get_or (there (column_of (a.start + x) a.pieces.now)) t 0)) in
    let with_parities : get_or c.add_parities.new.out x 0
    ≡ bit_xor (get_or c.fill.new.self x 0) parity_sum = c.add_parities.ensures.sum x first in
    let with_pieces : get_or c.add_pieces.new.out x 0
    ≡ bit_xor (get_or c.add_parities.new.out x 0) piece_sum = c.add_pieces.ensures.sum x second in
    row_is_decoded a.plan.now chosen m a.pieces.now a.parities.now (a.start + x) a.e (get_or c.add_pieces.new.out x 0)
    made
    c.requires.gaps c.requires.parities (piece_bytes a.pieces.now c.add_pieces.ensures.bytes)
    c.add_parities.ensures.bytes c.requires.place
    (with_pieces
    ∙ ap₂ bit_xor
    (with_parities ∙ ap (λ (n : ℕ). bit_xor n parity_sum) zero ∙ xor_comm 0 parity_sum ∙ xor_zero_r parity_sum)
    (ap (λ (l : List ℕ). sum_below (length a.pieces.now)
    (λ t. times (weight_of (row_entries m a.e) l t) (get_or (there (column_of (a.start + x) a.pieces.now)) t 0)))
    c.deref.ensures.value))
