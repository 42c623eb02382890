-- Ranges, and what is made over one.
use Rattle.std.proofs.Common.{◌≡◌, ℕ, ◌+◌, ◌-◌, ◌≤◌, List, [], ◌∷◌, ◌++◌, map, ap, ◌∙◌, sym, arith}
use Rattle.std.proofs.lemmas.List.{map-id, append-nil, append_assoc}
use Rattle.std.proofs.lemmas.List.FromFn.{map-range_with_len_more}
use Rattle.std.proofs.lemmas.List.Concat.{flat_map-append}
use Rattle.std.specs.List.{flat_map, range_with_len}

-- one number more
pub range-more : (n : ℕ) → range_with_len 0 (n + 1) ≡ range_with_len 0 n ++ n ∷ []
range-more n = sym (map-id _) ∙ map-range_with_len_more (λ (x : ℕ). x) 0 n n (omega arith)
    ∙ ap (λ xs. xs ++ n ∷ []) (map-id _)

pub flat_map-more : {X : Type 0} (f : ℕ → List X) (n : ℕ)
    → flat_map f (range_with_len 0 (n + 1)) ≡ flat_map f (range_with_len 0 n) ++ f n
flat_map-more f n =
    ap (flat_map f) (range-more n) ∙ flat_map-append f (range_with_len 0 n) (n ∷ [])
    ∙ ap (λ ys. flat_map f (range_with_len 0 n) ++ ys) (append-nil (f n))

-- a list that grows by what is made over a run, one number more
pub run-push : {X : Type 0} (f : ℕ → X) (xs : List X) (a i : ℕ) → a ≤ i
    → xs ++ map f (range_with_len a (i - a)) ++ f i ∷ [] ≡ xs ++ map f (range_with_len a (i + 1 - a))
run-push f xs a i from =
    let e : i - a + 1 ≡ i + 1 - a = omega arith in
    append_assoc xs (map f (range_with_len a (i - a))) (f i ∷ [])
    ∙ ap (λ ys. xs ++ ys) (sym (map-range_with_len_more f a (i - a) i (omega arith))
    ∙ ap (λ k. map f (range_with_len a k)) e)

-- at the start of the run
pub run-none : {X : Type 0} (f : ℕ → X) (xs : List X) (a : ℕ) → xs ≡ xs ++ map f (range_with_len a (a - a))
run-none f xs a =
    let e : 0 ≡ a - a = omega arith in
    sym (append-nil xs) ∙ ap (λ k. xs ++ map f (range_with_len a k)) e
