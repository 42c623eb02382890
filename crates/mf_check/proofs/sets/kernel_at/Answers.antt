use Rattle.std.proofs.Common.{◌≡◌, ◌<◌, ◌≤◌, ◌+◌, ℕ, Option, Some, None, List, length, take, get_or, sym, subst, ◌∙◌}
use Rattle.std.proofs.Common.{arith, length-take-le}
use Rattle.mf_lemmas.proofs.Results.{if_ok-map}
use Rattle.mf_code.specs.Decodable.{IsPlaceSet}
use Rattle.mf_erasure.specs.Erasure.{entry, others_from, Splits}
use Rattle.mf_erasure.proofs.Bridge.{only_zero_from_decodable, decodable_from_only_zero}
use Rattle.mf_matrix.specs.Tables.{FindsKernel}
use Rattle.mf_matrix.specs.Matrix.{entry as entry_of}
use Rattle.mf_matrix.proofs.Same.{SameBelow, only_zero-same, no_kernel, is_kernel-same}
use Rattle.mf_check.specs.Search.{IsDataFront, SetAnswer}
use Rattle.mf_check.proofs.Parts.{gone_from, Splits-of_front}
use Rattle.mf_check.proofs.sets.kernel_at.Goals as goal

-- what the matrix of an erasure says of its set
set_answer : (width : ℕ) (points places lost kept : List ℕ) (n : ℕ) (a : ℕ → ℕ → ℕ) (found : Option (List ℕ))
    → Splits width (length points) places lost kept → n ≡ length lost
    → SameBelow (length lost) a (entry points lost kept)
    → FindsKernel n a found → SetAnswer points width places found
set_answer width points places lost kept n a None splits size same only =
    decodable_from_only_zero width points places lost kept splits
    (only_zero-same (length lost) a (entry points lost kept) same (subst (λ m. FindsKernel m a None) size only))
set_answer width points places lost kept n a (Some x) splits size same singular =
    let k = is_kernel-same (length lost) a (entry points lost kept) x same
    (subst (λ m. FindsKernel m a (Some x)) size singular).0 in (
      λ d. no_kernel (length lost) (entry points lost kept) x
          (only_zero_from_decodable width points places lost kept splits d) k,
      (lost, kept, splits, k),
    )

module _ (points places read : List ℕ) (width e : ℕ) (set : IsPlaceSet (width + length points) (length points) places)
    (front : IsDataFront width places e) (is : read ≡ others_from 0 (length points) (gone_from width e places)) where
  splits : Splits width (length points) places (take e places) read
  splits = subst (λ (l : List ℕ). Splits width (length points) places (take e places) l) (sym is)
      (Splits-of_front width (length points) places e set front)

  known : (i : ℕ) → i < length read → get_or read i 0 < length points
  known i l = splits.erasure.kept_places.below i 0 l

  few_kept : length read ≤ length points
  few_kept = omega (arith, splits.erasure.even, length-take-le e places front.within, front.within, set.len)

  few_lost : length (take e places) ≤ length points
  few_lost = omega (arith, length-take-le e places front.within, front.within, set.len)

pub erasure_matrix-requires-clause-few_rows : goal.erasure_matrix-requires-clause-few_rows
erasure_matrix-requires-clause-few_rows c =
    omega (
      arith,
      c.requires.few,
      few_kept c.args.points.now c.args.places.now c.deref.result.now c.args.width c.data_count-split.result
          c.requires.set
          c.data_count-split.ensures (c.deref.ensures.value ∙ c.in_ok-list_kept.ensures),
    )

pub erasure_matrix-requires-clause-known : goal.erasure_matrix-requires-clause-known
erasure_matrix-requires-clause-known c =
    known c.args.points.now c.args.places.now c.deref.result.now c.args.width c.data_count-split.result c.requires.set
    c.data_count-split.ensures (c.deref.ensures.value ∙ c.in_ok-list_kept.ensures)

pub kernel-requires : goal.kernel-requires
kernel-requires c =
    let s = splits c.args.points.now c.args.places.now c.deref.result.now c.args.width c.data_count-split.result
    c.requires.set
    c.data_count-split.ensures (c.deref.ensures.value ∙ c.in_ok-list_kept.ensures) in
    c.erasure_matrix.ensures.size.0 ∙ sym s.erasure.even ∙ sym c.erasure_matrix.ensures.size.1

pub returns : goal.returns
returns c =
    let points = c.args.points.now in
    let places = c.args.places.now in
    let read = c.deref.result.now in
    let e = c.data_count-split.result in
    let m = c.erasure_matrix.result in
    let s = splits points places read c.args.width e c.requires.set c.data_count-split.ensures
    (c.deref.ensures.value ∙ c.in_ok-list_kept.ensures) in
    if_ok-map c.kernel.result (FindsKernel m.columns (entry_of m)) (SetAnswer points c.args.width places)
    (λ found. set_answer c.args.width points places (take e places) read m.columns (entry_of m) found s
    c.erasure_matrix.ensures.size.1
    (λ i j li lj. c.erasure_matrix.ensures.entries i j (omega (arith, s.erasure.even)) lj))
    c.kernel.ensures
