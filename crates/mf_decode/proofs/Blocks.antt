-- A block of columns, as the kernels fill it.
use Rattle.std.proofs.Common.{◌≡◌, ℕ, ◌+◌, ◌-◌, ◌<◌, ◌≤◌, ◌⊎◌, inl, inr, List, length, map, take, drop, get_or, Option}
use Rattle.std.proofs.Common.{bit_xor, sym, ap, ap₂, ◌∙◌, subst, arith, length-take, length-drop}
use Rattle.std.specs.Prelude.{unwrap_or}
use Rattle.std.specs.Option.{option_map}
use Rattle.std.specs.Int.Bits.{xor_assoc, xor_zero_r}
use Rattle.std.proofs.lemmas.List.{get_or-take, get_or-drop, get_or-map, length-map, get_or_default}
use Rattle.std.proofs.lemmas.Bool.{cases_lt}
use Rattle.std.proofs.lemmas.Simd.{get_or-zip2}
use lib.Lanes.{zip2}
use Rattle.mf_code.specs.Field.{times}
use Rattle.mf_code.specs.Sums.{sum_below}
use Rattle.mf_code.proofs.Sums.{sum_below-none, sum_below-more}
use Rattle.mf_decode.specs.Decoding.{column_of}
use Rattle.mf_decode.specs.Columns.{there}

-- one byte of a block to which a multiple of a part of a chunk was added
pub added_at : (out bytes : List ℕ) (c start e x : ℕ) → e ≡ start + length out → e ≤ length bytes → x < length out
    → get_or (zip2 (λ y b. bit_xor y (times c b)) out (take (e - start) (drop start bytes))) x 0
    ≡ bit_xor (get_or out x 0) (times c (get_or bytes (start + x) 0))
added_at out bytes c start e x is long lt =
    let src = take (e - start) (drop start bytes) in
    let short : x < e - start = omega arith in
    let within : x < length src = simp (length-take, length-drop) (omega arith) in
    get_or-zip2 (λ y b. bit_xor y (times c b)) out src x 0 0 0 lt within
    ∙ ap (λ (b : ℕ). bit_xor (get_or out x 0) (times c b))
    (get_or-take (e - start) (drop start bytes) x 0 short ∙ get_or-drop start bytes x 0)

-- a sum with no term yet
pub nothing_added : (old : ℕ) (f : ℕ → ℕ) → old ≡ bit_xor old (sum_below 0 f)
nothing_added old f = sym (ap (bit_xor old) (sum_below-none f) ∙ xor_zero_r old)

-- a sum with one term more
pub term_added : (old n now : ℕ) (f : ℕ → ℕ) (term : ℕ) → now ≡ bit_xor old (sum_below n f) → term ≡ f n
    → bit_xor now term ≡ bit_xor old (sum_below (n + 1) f)
term_added old n now f term is same =
    ap₂ bit_xor is same ∙ xor_assoc old (sum_below n f) (f n) ∙ ap (bit_xor old) (sym (sum_below-more n f))

-- byte x of piece t, or 0 where it isn't there
pub there_at : (x : ℕ) (pieces : List (Option (List ℕ))) (t : ℕ) (piece : Option (List ℕ)) → t < length pieces
    → piece ≡ get_or pieces t piece
    → get_or (there (column_of x pieces)) t 0 ≡ unwrap_or (option_map (λ chunk. get_or chunk x 0) piece) 0
there_at x pieces t piece lt is =
    let f : Option (List ℕ) → Option ℕ = λ o. option_map (λ chunk. get_or chunk x 0) o in
    get_or-map (λ (o : Option ℕ). unwrap_or o 0) (map f pieces) t (f piece) 0
    (subst (λ (n : ℕ). t < n) (sym (length-map pieces f)) lt)
    ∙ ap (λ (o : Option ℕ). unwrap_or o 0) (get_or-map f pieces t piece (f piece) lt ∙ ap f (sym is))

-- what holds of the elements so far, and of the next one, holds of one more
pub one_more : {X : Type 0} (P : X → Type 0) (n : ℕ) (xs : List X) (x : X) → n < length xs → x ≡ get_or xs n x → P x
    → ((k : ℕ) (d : X) → k < n → P (get_or xs k d))
    → (k : ℕ) (d : X) → k < n + 1 → P (get_or xs k d)
one_more P n xs x lt is here before k d below = at (cases_lt k n)
  where
    at : (k < n) ⊎ (n ≤ k) → P (get_or xs k d)
    at (inl l) = before k d l
    at (inr le) =
        let e : n ≡ k = omega arith in
        subst (λ (i : ℕ). P (get_or xs i d)) e (subst P (is ∙ get_or_default xs n x d lt) here)
