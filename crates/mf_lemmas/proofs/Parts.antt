-- Parts of lists, of ranges, and of lists that are joined.
use Rattle.std.proofs.Common.{◌≡◌, ℕ, zero, suc, ◌+◌, ◌-◌, ◌≤◌, List, [], ◌∷◌, ◌++◌, length, take, drop, refl, ap, ap₂}
use Rattle.std.proofs.Common.{◌∙◌, sym, ⊎_elim, arith}
use Rattle.std.proofs.lemmas.Bool.{cases_lt}
use Rattle.std.proofs.lemmas.List.{length-take, take_all, take-append-le, take-append-drop, drop_all, append-nil}
use Rattle.std.proofs.lemmas.List.Concat.{concat_is, flat_map-append}
use Rattle.std.proofs.Math.Seq.{take-append-add}
use Rattle.std.specs.List.{concat, range_with_len}

-- the first n of two lists that are joined
pub take-append : {X : Type 0} (n : ℕ) (xs ys : List X) → take n (xs ++ ys) ≡ take n xs ++ take (n - length xs) ys
take-append n xs ys = ⊎_elim
    (λ within.
    let none : 0 ≡ n - length xs = omega arith in
    take-append-le n xs ys (omega arith) ∙ sym (append-nil (take n xs)) ∙ ap (λ k. take n xs ++ take k ys) none)
    (λ past.
    let e : n ≡ length xs + (n - length xs) = omega arith in
    ap (λ k. take k (xs ++ ys)) e ∙ take-append-add xs ys (n - length xs)
    ∙ ap (λ zs. zs ++ take (n - length xs) ys) (sym (take_all n xs past)))
    (cases_lt n (length xs))

-- m elements, and k behind them
pub take-add : {X : Type 0} (m k : ℕ) (xs : List X) → take (m + k) xs ≡ take m xs ++ take k (drop m xs)
take-add m k xs = ⊎_elim
    (λ within.
    let e : m + k - length (take m xs) ≡ k = omega (arith, length-take m xs) in
    ap (take (m + k)) (sym (take-append-drop m xs)) ∙ take-append (m + k) (take m xs) (drop m xs)
    ∙ ap (λ zs. zs ++ take (m + k - length (take m xs)) (drop m xs))
    (take_all (m + k) (take m xs) (omega (arith, length-take m xs)))
    ∙ ap (λ n. take m xs ++ take n (drop m xs)) e)
    (λ past.
    take_all (m + k) xs (omega arith) ∙ sym (take_all m xs past) ∙ sym (append-nil (take m xs))
    ∙ ap (λ zs. take m xs ++ zs) (sym (take_all k [] (omega arith)) ∙ ap (take k) (sym (drop_all m xs past))))
    (cases_lt m (length xs))

-- a range without its first s numbers, and its first k
pub drop-range : (s a n : ℕ) → drop s (range_with_len a n) ≡ range_with_len (a + s) (n - s)
drop-range zero a n = ap₂ range_with_len (omega arith) (omega arith)
drop-range (suc s) a zero = ap (range_with_len (a + suc s)) (let e : 0 ≡ 0 - suc s = omega arith in e)
drop-range (suc s) a (suc n) = drop-range s (a + 1) n ∙ ap₂ range_with_len (omega arith) (omega arith)

pub take-range : (k a n : ℕ) → k ≤ n → take k (range_with_len a n) ≡ range_with_len a k
take-range zero a n h = refl
take-range (suc k) a zero h = absurd (omega arith)
take-range (suc k) a (suc n) h = ap (λ xs. a ∷ xs) (take-range k (a + 1) n (omega arith))

-- joined lists of lists
pub concat-append : (xs ys : List (List ℕ)) → concat (xs ++ ys) ≡ concat xs ++ concat ys
concat-append xs ys = concat_is (xs ++ ys) ∙ flat_map-append (λ x. x) xs ys
    ∙ sym (ap₂ (λ a b. a ++ b) (concat_is xs) (concat_is ys))
