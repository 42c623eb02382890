use Rattle.std.proofs.Common.{◌≡◌, ◌<◌, ℕ, List, [], ◌∷◌, All, Option, length, refl, sym, ap, ◌∙◌, subst, arith}
use Rattle.std.specs.Prelude.{IfSome, IfOk, Result, Ok, Err}
use Rattle.std.proofs.lemmas.Grind.{common_steps}
use Rattle.std.proofs.lemmas.Result.{IfOk-weaker}
use Rattle.std.specs.declared.vec.Vec.{Vec}
use Rattle.std.specs.declared.alloc.Global.{Global}
use Rattle.mf_lemmas.proofs.Results.{if_ok-map}
use Rattle.mf_kernel.specs.Dots.{rows}
use Rattle.mf_decode.specs.Stripes.{IsDataList}
use Rattle.mf_decode.specs.Decoding.{Plan, Agrees, filled, gaps_from}
use Rattle.mf_decode.proofs.Decoded.{piece_bytes}
use Rattle.mf_decode.proofs.Lists.{no_gaps_list, no_gaps_only}
use Rattle.mf_decode.proofs.gathering.restored.Goals as goal

no_places : (places : List ℕ) → length places ≡ 0 → places ≡ []
no_places [] e = refl
no_places (p ∷ places) e = absurd (omega arith)

if_ok-both : {T E : Type 0} (r : Result T E) (P Q : T → Type 0) → IfOk r P → IfOk r Q → IfOk r (λ x. P x × Q x)
if_ok-both (Ok x) P Q p q = (p, q)
if_ok-both (Err e) P Q p q = p

pub returns-then-is_empty-clause-data : goal.returns-then-is_empty-clause-data
returns-then-is_empty-clause-data c =
    let found = c.args.found.items in
    let empty : length c.args.erased.now ≡ 0 = grind (arith, common_steps) in
    let none : gaps_from 0 found ≡ [] = c.requires.gaps ∙ no_places c.args.erased.now empty in
    if_ok-map c.fill_gaps.result _ _
    (λ chunks are.
    subst (λ (l : List (List ℕ)). IsDataList (length found) c.args.chunk l)
    (sym (are.0 ∙ ap (λ (l : List (Option (List ℕ))). filled [] l []) c.as_slice.ensures.value))
    (no_gaps_list c.args.chunk found none c.requires.piece_sizes
    (piece_bytes found
    (subst (λ (l : List (Option (List ℕ))). All (λ piece. IfSome piece (λ chunk. All (λ b. b < 256) chunk)) l)
    c.as_slice.ensures.value are.1))))
    (if_ok-both c.fill_gaps.result _ _ c.fill_gaps.ensures.all c.fill_gaps.ensures.bytes)

pub returns-then-is_empty-clause-only : goal.returns-then-is_empty-clause-only
returns-then-is_empty-clause-only c =
    let found = c.args.found.items in
    let empty : length c.args.erased.now ≡ 0 = grind (arith, common_steps) in
    let none : gaps_from 0 found ≡ [] = c.requires.gaps ∙ no_places c.args.erased.now empty in
    if_ok-map c.fill_gaps.result _ _
    (λ chunks are list a.
    no_gaps_only _ c.args.chunk found c.args.had.now.chunks.items list none a
    ∙ sym (are ∙ ap (λ (l : List (Option (List ℕ))). filled [] l []) c.as_slice.ensures.value))
    c.fill_gaps.ensures.all

pub returns-clause-only : goal.returns-clause-only
returns-clause-only c =
    let found = c.args.found.items in
    let parities = c.args.had.now.chunks.items in
    let size = c.args.chunk in
    let plan : Plan = record {
      points = c.args.points.now;
      width = c.args.width;
      erased = c.args.erased.now;
      parities =
          c.args.had.now.numbers.items;
    } in
    let lists : List (List ℕ) = rows c.in_ok-lists.lists.items in
    let numbers : c.in_ok-plan.plan ≡ plan = c.in_ok-plan.ensures
    ∙ ap (λ (l : List ℕ). record
    { points = c.args.points.now; width = c.args.width; erased = c.args.erased.now; parities = l })
    c.as_slice-2.ensures.value in
    let fillings : lists ≡ c.as_slice-6.result.now = sym (c.as_slice-6.ensures.value ∙ c.in_ok-fillings.ensures) in
    let P : Vec (List ℕ) Global
    → Type 0 = λ chunks. chunks.items ≡ filled [] c.as_slice-5.result.now c.as_slice-6.result.now in
    let Q : Vec (List ℕ) Global → Type 0 = λ chunks. (list : List (List ℕ)) → Agrees plan size found parities list
    → list ≡ chunks.items in
    IfOk-weaker c.fill_gaps-2.result P Q
    (λ chunks e list a.
    c.in_ok-lists.ensures.only list
    (subst (λ (p : Plan). Agrees p size c.as_slice-3.result.now c.as_slice-4.result.now list) (sym numbers)
    (subst (λ l. Agrees plan size l c.as_slice-4.result.now list) (sym c.as_slice-3.ensures.value)
    (subst (λ l. Agrees plan size found l list) (sym c.as_slice-4.ensures.value) a)))
    ∙ ap (λ l. filled [] l lists) (c.as_slice-3.ensures.value ∙ sym c.as_slice-5.ensures.value)
    ∙ ap (filled [] c.as_slice-5.result.now) fillings ∙ sym e)
    c.fill_gaps-2.ensures.all
