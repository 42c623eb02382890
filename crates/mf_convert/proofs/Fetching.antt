-- The gets of a row of parities in turn.
use Rattle.std.proofs.Common.{◌≡◌, ℕ, suc, ◌+◌, ◌-◌, ◌<◌, ◌≤◌, List, [], ◌∷◌, ◌++◌, map, take, drop, get_or, sym, ap}
use Rattle.std.proofs.Common.{◌∙◌, subst, arith}
use Rattle.std.proofs.lemmas.List.{take-append-drop, map-append}
use Rattle.std.proofs.lemmas.List.FromFn.{map-range_with_len_more, take-map-range_with_len, get_or-map-range_with_len}
use Rattle.std.proofs.lemmas.List.FromFn.{length-map-range_with_len}
use Rattle.mf_places.specs.declared.Name.TheVariants as name
use Rattle.mf_vault.specs.Facts.{Facts, cell_of}
use Rattle.mf_vault.specs.Actor.{Actor}
use Rattle.mf_vault.proofs.Doing.{facts_stay}
use Rattle.mf_convert.specs.declared.change.Change.{Change}
use Rattle.mf_convert.specs.declared.change.Change.TheVariants as change
use Rattle.mf_convert.specs.declared.course.Course.{Course}
use Rattle.mf_convert.specs.Convert.{gets}
use Rattle.mf_convert.specs.Converting.{row_of, Completes, Cuts}
use Rattle.mf_convert.proofs.Courses.{no_memory, cut_before, cut_behind, completes_then}
use Rattle.mf_convert.proofs.Rows.{gets_then, gets_more, gets_around}

row_more : (w p first i : ℕ) → first ≤ i
    → row_of w p first (i + 1 - first) ≡ row_of w p first (i - first) ++ name.Parity w i p ∷ []
row_more w p first i low =
    let e : i + 1 - first ≡ i - first + 1 = omega arith in
    ap (row_of w p first) e ∙ map-range_with_len_more (λ k. name.Parity w k p) first (i - first) i (omega arith)

front : (w p first k n : ℕ) → k ≤ n → take k (row_of w p first n) ≡ row_of w p first k
front w p first k n low = take-map-range_with_len (λ i. name.Parity w i p) first n k low

-- a row from place k on
gets_from : (f : Facts) (w p first k n : ℕ) → k ≤ n
    → gets f (row_of w p first n) ≡ gets f (row_of w p first k) ++ gets f (drop k (row_of w p first n))
gets_from f w p first k n low =
    ap (gets f) (sym (take-append-drop k (row_of w p first n)))
    ∙ (gets_then f (take k (row_of w p first n)) (drop k (row_of w p first n))
    ∙ ap (λ l. gets f l ++ gets f (drop k (row_of w p first n))) (front w p first k n low))

-- and around it
gets_at : (f : Facts) (w p first i end : ℕ) → first ≤ i → i < end
    → gets f (row_of w p first (end - first)) ≡ gets f (row_of w p first (i - first))
    ++ (gets f (name.Parity w i p ∷ []) ++ gets f (drop (suc (i - first)) (row_of w p first (end - first))))
gets_at f w p first i end low high =
    let xs = row_of w p first (end - first) in
    let k = i - first in
    let long = length-map-range_with_len (λ j. name.Parity w j p) first (end - first) in
    let at = get_or-map-range_with_len (λ j. name.Parity w j p) first (end - first) k i (name.Data 0) (omega arith)
    (omega arith) in
    gets_around f xs k (name.Data 0) (omega arith)
    ∙ (ap (λ l. gets f l ++ (gets f (get_or xs k (name.Data 0) ∷ []) ++ gets f (drop (suc k) xs)))
    (front w p first k (end - first) (omega arith))
    ∙ ap (λ x. gets f (row_of w p first k) ++ (gets f (x ∷ []) ++ gets f (drop (suc k) xs))) at)

-- one parity more
pub fetched : {c : Course} (w p first i : ℕ) {a b d : Actor} → first ≤ i
    → Completes c (gets a.facts (row_of w p first (i - first))) a b
    → Completes c (gets b.facts (name.Parity w i p ∷ [])) b d
    → Completes c (gets a.facts (row_of w p first (i + 1 - first))) a d
fetched {c = c} w p first i {a = a} {b = b} {d = d} low x y =
    let same = ap (gets a.facts) (row_more w p first i low) ∙ gets_more a.facts (row_of w p first (i - first))
    (name.Parity w i p) in
    subst (λ l. Completes c l a d) (sym same)
    (completes_then x (subst (λ f. Completes c (gets f (name.Parity w i p ∷ [])) b d) (facts_stay x.does) y))

pub cells_more : (w p first i : ℕ) (f : Facts) (b : Actor) (cells next : List (List ℕ)) (cell : List ℕ) → first ≤ i
    → b.facts ≡ f → cells ≡ map (cell_of f) (row_of w p first (i - first)) → cell ≡ cell_of b.facts (name.Parity w i p)
    → next ≡ cells ++ cell ∷ [] → next ≡ map (cell_of f) (row_of w p first (i + 1 - first))
cells_more w p first i f b cells next cell low same before is more =
    more ∙ (ap (λ l. l ++ cell ∷ []) before
    ∙ (ap (λ x. map (cell_of f) (row_of w p first (i - first)) ++ x ∷ [])
    (is ∙ ap (λ g. cell_of g (name.Parity w i p)) same)
    ∙ (sym (map-append (cell_of f) (row_of w p first (i - first)) (name.Parity w i p ∷ []))
    ∙ ap (map (cell_of f)) (sym (row_more w p first i low)))))

-- a cut at one
pub fetch_cut : {c : Course} (w p first i end : ℕ) {o : Change} {a b d : Actor} → first ≤ i → i < end
    → Completes c (gets a.facts (row_of w p first (i - first))) a b
    → Cuts c (gets b.facts (name.Parity w i p ∷ [])) o b d
    → Cuts c (gets a.facts (row_of w p first (end - first))) o a d
fetch_cut {c = c} w p first i end {o = o} {a = a} {b = b} {d = d} low high x k =
    subst (λ l. Cuts c l o a d) (sym (gets_at a.facts w p first i end low high))
    (cut_behind x.does (cut_before (gets a.facts (drop (suc (i - first)) (row_of w p first (end - first))))
    (subst (λ f. Cuts c (gets f (name.Parity w i p ∷ [])) o b d) (facts_stay x.does) k)))

pub fetch_memory : {c : Course} (w p first i end : ℕ) {a b d : Actor} → first ≤ i → i < end
    → Completes c (gets a.facts (row_of w p first (i - first))) a b
    → Completes c (gets b.facts (name.Parity w i p ∷ [])) b d
    → Cuts c (gets a.facts (row_of w p first (end - first))) change.Memory a d
fetch_memory {c = c} w p first i end {a = a} {d = d} low high x y =
    let z = fetched w p first i low x y in
    subst (λ l. Cuts c l change.Memory a d)
    (sym (gets_from a.facts w p first (i + 1 - first) (end - first) (omega arith)))
    (cut_behind z.does (no_memory (gets a.facts (drop (i + 1 - first) (row_of w p first (end - first)))) z.time))
