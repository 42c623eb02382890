-- A list made in two parts.
use Rattle.std.proofs.Common.{◌≡◌, ℕ, ◌+◌, ◌-◌, ◌<◌, ◌≤◌, List, [], ◌∷◌, ◌++◌, length, get_or, take, sym, ap, ap₂, ◌∙◌}
use Rattle.std.proofs.Common.{arith, add-zero, ⊎_elim}
use Rattle.std.proofs.lemmas.Bool.{cases_lt}
use Rattle.std.proofs.lemmas.List.{length-append, get_or_append_left, get_or-append_right, take_at}
use Rattle.mf_code.specs.Rows.{list_of}
use Rattle.mf_code.proofs.Lists.{length-list_of, list_of_at, list_of_from}

-- a list made in two parts
pub list_of-add : (n k : ℕ) (f : ℕ → ℕ) → list_of n f ++ list_of k (λ x. f (n + x)) ≡ list_of (n + k) f
list_of-add n k f =
    list_of_from (n + k) f (list_of n f ++ list_of k (λ x. f (n + x)))
    (length-append (list_of n f) (list_of k (λ x. f (n + x)))
    ∙ ap₂ (λ (a b : ℕ). a + b) (length-list_of n f) (length-list_of k (λ x. f (n + x)))) at
  where
    at : (x : ℕ) → x < n + k → get_or (list_of n f ++ list_of k (λ x. f (n + x))) x 0 ≡ f x
    at x lt =
        ⊎_elim
        (λ (h : x < n). get_or_append_left (list_of n f) (list_of k (λ y. f (n + y))) 0 x
        (omega (arith, length-list_of n f)) ∙ list_of_at n f x h)
        (λ (h : n ≤ x).
        get_or-append_right (list_of n f) (list_of k (λ y. f (n + y))) n x 0 (length-list_of n f) h
        ∙ list_of_at k (λ y. f (n + y)) (x - n) (omega arith) ∙ ap f (let e : n + (x - n) ≡ x = omega arith in e))
        (cases_lt x n)

-- one more entry
pub list_of-more : (n : ℕ) (f : ℕ → ℕ) → list_of n f ++ (f n ∷ []) ≡ list_of (n + 1) f
list_of-more n f = ap (λ (k : ℕ). list_of n f ++ (f k ∷ [])) (sym (add-zero n)) ∙ list_of-add n 1 f

-- a block more
pub list_of-block : (f : ℕ → ℕ) (start count n : ℕ) (before after made rest : List ℕ) → n ≡ count
    → before ≡ list_of start f → made ≡ list_of n (λ x. f (start + x)) → after ≡ before ++ take count (made ++ rest)
    → after ≡ list_of (start + count) f
list_of-block f start count n before after made rest long so_far block more =
    let here : length made ≡ count = ap length block ∙ length-list_of n (λ x. f (start + x)) ∙ long in
    more ∙ ap₂ (λ (xs ys : List ℕ). xs ++ ys) so_far
    (take_at made rest count here ∙ block ∙ ap (λ (k : ℕ). list_of k (λ x. f (start + x))) long)
    ∙ list_of-add start count f
