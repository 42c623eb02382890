-- Lists with gaps, and the lists that fill them.
use Rattle.std.proofs.Common.{◌≡◌, ℕ, zero, suc, ◌+◌, ◌<◌, ◌≤◌, Bool, true, false, cond, List, [], ◌∷◌, ◌++◌, length}
use Rattle.std.proofs.Common.{map, take, get_or, Option, Some, None, bit_xor, refl, sym, ap, ap₂, ◌∙◌, arith, add-zero}
use Rattle.std.specs.Prelude.{slice_get, unwrap_or, is_some, not, count_by}
use Rattle.std.specs.Option.{option_map}
use Rattle.std.specs.Int.Bits.{xor_assoc}
use Rattle.std.proofs.lemmas.Nat.{xor_comm}
use Rattle.std.proofs.lemmas.List.Recursion.{is_count_by}
use Rattle.mf_code.specs.Field.{times, power}
use Rattle.mf_code.specs.Sums.{sum_below, weighted}
use Rattle.mf_code.proofs.Sums.{sum_below-first, sum_below-same, sum_below-none}
use Rattle.mf_field.proofs.FieldLaws.{times-zero}
use Rattle.mf_decode.specs.Decoding.{gaps_from, filled}
use Rattle.mf_decode.specs.Columns.{there}

-- ---- lengths and places

pub length-filled : {A : Type 0} (other : A) (ps : List (Option A)) (ks : List A)
    → length (filled other ps ks) ≡ length ps
length-filled other [] ks = refl
length-filled other (Some x ∷ ps) ks = ap suc (length-filled other ps ks)
length-filled other (None ∷ ps) [] = ap suc (length-filled other ps [])
length-filled other (None ∷ ps) (k ∷ ks) = ap suc (length-filled other ps ks)

-- what is there stays
pub filled-there : {A : Type 0} (other : A) (ps : List (Option A)) (ks : List A) (t : ℕ) (x : A)
    → slice_get ps t ≡ Some (Some x) → slice_get (filled other ps ks) t ≡ Some x
filled-there other [] ks t x e = absurd (cc)
filled-there other (Some y ∷ ps) ks zero x e = (cc)
filled-there other (Some y ∷ ps) ks (suc t) x e = filled-there other ps ks t x e
filled-there other (None ∷ ps) [] zero x e = absurd (cc)
filled-there other (None ∷ ps) [] (suc t) x e = filled-there other ps [] t x e
filled-there other (None ∷ ps) (k ∷ ks) zero x e = absurd (cc)
filled-there other (None ∷ ps) (k ∷ ks) (suc t) x e = filled-there other ps ks t x e

-- the gaps of a list that was changed where something is there
pub gaps_from-map : {A B : Type 0} (f : A → B) (t : ℕ) (ps : List (Option A))
    → gaps_from t (map (λ (o : Option A). option_map f o) ps) ≡ gaps_from t ps
gaps_from-map f t [] = refl
gaps_from-map f t (Some x ∷ ps) = gaps_from-map f (t + 1) ps
gaps_from-map f t (None ∷ ps) = ap (λ (l : List ℕ). t ∷ l) (gaps_from-map f (t + 1) ps)

-- a function of what fills the gaps
pub map-filled : {A B : Type 0} (f : A → B) (other : A) (ps : List (Option A)) (ks : List A)
    → map f (filled other ps ks) ≡ filled (f other) (map (λ (o : Option A). option_map f o) ps) (map f ks)
map-filled {B = B} f other [] ks = refl
map-filled {B = B} f other (Some x ∷ ps) ks = ap (λ (l : List B). f x ∷ l) (map-filled f other ps ks)
map-filled {B = B} f other (None ∷ ps) [] = ap (λ (l : List B). f other ∷ l) (map-filled f other ps [])
map-filled {B = B} f other (None ∷ ps) (k ∷ ks) = ap (λ (l : List B). f k ∷ l) (map-filled f other ps ks)

-- what holds of each element that is there, and of each filling, holds of the filled list
pub all-filled : {A : Type 0} (P : A → Type 0) (other : A) (t : ℕ) (ps : List (Option A)) (ks : List A)
    → length ks ≡ length (gaps_from t ps)
    → ((k : ℕ) (x : A) → slice_get ps k ≡ Some (Some x) → P x) → ((k : ℕ) (d : A) → k < length ks → P (get_or ks k d))
    → (k : ℕ) (d : A) → k < length (filled other ps ks) → P (get_or (filled other ps ks) k d)
all-filled P other t [] ks e ps-hold ks-hold k d lt = absurd (omega arith)
all-filled P other t (Some x ∷ ps) ks e ps-hold ks-hold zero d lt = ps-hold 0 x refl
all-filled P other t (Some x ∷ ps) ks e ps-hold ks-hold (suc k) d lt = all-filled P other (t + 1) ps ks e
    (λ n. ps-hold (suc n)) ks-hold k d (omega arith)
all-filled P other t (None ∷ ps) [] e ps-hold ks-hold k d lt = absurd (omega arith)
all-filled P other t (None ∷ ps) (y ∷ ks) e ps-hold ks-hold zero d lt = ks-hold 0 y (omega arith)
all-filled P other t (None ∷ ps) (y ∷ ks) e ps-hold ks-hold (suc k) d lt =
    all-filled P other (t + 1) ps ks (let n : length ks ≡ length (gaps_from (t + 1) ps) = omega arith in n)
    (λ n. ps-hold (suc n)) (λ n c l. ks-hold (suc n) c (omega arith)) k d (omega arith)

-- a list that has what is there is filled from its own gaps
pub refilled : {A : Type 0} (other : A) (f : ℕ → A) (t : ℕ) (ps : List (Option A)) (ds : List A) → length ds ≡ length ps
    → ((k : ℕ) (x : A) → slice_get ps k ≡ Some (Some x) → slice_get ds k ≡ Some x)
    → ((i : ℕ) (d : A) → i < length ds → f (t + i) ≡ get_or ds i d)
    → filled other ps (map f (gaps_from t ps)) ≡ ds
refilled other f t [] [] e has at = refl
refilled other f t [] (d ∷ ds) e has at = absurd (omega arith)
refilled other f t (p ∷ ps) [] e has at = absurd (omega arith)
refilled {A = A} other f t (Some x ∷ ps) (d ∷ ds) e has at =
    ap₂ (λ (y : A) (l : List A). y ∷ l) (let h : Some d ≡ Some x = has 0 x refl in (cc))
    (refilled other f (t + 1) ps ds (let n : length ds ≡ length ps = omega arith in n) (λ k y h. has (suc k) y h)
    (λ i c lt. ap f (let n : t + 1 + i ≡ t + suc i = omega arith in n) ∙ at (suc i) c (omega arith)))
refilled {A = A} other f t (None ∷ ps) (d ∷ ds) e has at =
    ap₂ (λ (y : A) (l : List A). y ∷ l) (ap f (sym (add-zero t)) ∙ at 0 d (omega arith))
    (refilled other f (t + 1) ps ds (let n : length ds ≡ length ps = omega arith in n) (λ k y h. has (suc k) y h)
    (λ i c lt. ap f (let n : t + 1 + i ≡ t + suc i = omega arith in n) ∙ at (suc i) c (omega arith)))

-- the gaps are places of the list
pub gaps_within : {A : Type 0} (t : ℕ) (ps : List (Option A)) (l : ℕ) → l < length (gaps_from t ps)
    → (t ≤ get_or (gaps_from t ps) l 0) × (get_or (gaps_from t ps) l 0 < t + length ps)
gaps_within t [] l lt = absurd (omega arith)
gaps_within t (Some x ∷ ps) l lt = let (low, high) = gaps_within (t + 1) ps l lt in (omega arith, omega arith)
gaps_within t (None ∷ ps) zero lt = (omega arith, omega arith)
gaps_within t (None ∷ ps) (suc l) lt = let (low, high) = gaps_within (t + 1) ps l (omega arith)
    in (omega arith, omega arith)

-- one more element at the end, whether it is there or not
pub filled-push : {A : Type 0} (other : A) (t : ℕ) (ps : List (Option A)) (o : Option A) (ks : List A)
    → filled other (ps ++ o ∷ []) ks ≡ filled other ps ks ++ unwrap_or o (get_or ks (length (gaps_from t ps)) other)
    ∷ []
filled-push other t [] (Some x) ks = refl
filled-push other t [] None [] = refl
filled-push other t [] None (k ∷ ks) = refl
filled-push {A = A} other t (Some x ∷ ps) o ks = ap (λ (l : List A). x ∷ l) (filled-push other (t + 1) ps o ks)
filled-push {A = A} other t (None ∷ ps) o [] = ap (λ (l : List A). other ∷ l) (filled-push other (t + 1) ps o [])
filled-push {A = A} other t (None ∷ ps) o (k ∷ ks) = ap (λ (l : List A). k ∷ l) (filled-push other (t + 1) ps o ks)

pub gaps_from-some : {A : Type 0} (t : ℕ) (ps : List (Option A)) (x : A)
    → gaps_from t (ps ++ Some x ∷ []) ≡ gaps_from t ps
gaps_from-some t [] x = refl
gaps_from-some t (Some y ∷ ps) x = gaps_from-some (t + 1) ps x
gaps_from-some t (None ∷ ps) x = ap (λ (l : List ℕ). t ∷ l) (gaps_from-some (t + 1) ps x)

pub gaps_from-none : {A : Type 0} (t n : ℕ) (ps : List (Option A)) → t + length ps ≡ n
    → gaps_from t (ps ++ None ∷ []) ≡ gaps_from t ps ++ n ∷ []
gaps_from-none t n [] e = ap (λ (m : ℕ). m ∷ []) (let d : t ≡ n = omega arith in d)
gaps_from-none t n (Some y ∷ ps) e = gaps_from-none (t + 1) n ps (omega arith)
gaps_from-none t n (None ∷ ps) e = ap (λ (l : List ℕ). t ∷ l) (gaps_from-none (t + 1) n ps (omega arith))

-- before a gap there are fewer gaps
pub gaps_before : {A : Type 0} (t : ℕ) (ps : List (Option A)) (k : ℕ) (o : Option A) → k < length ps → o ≡ get_or ps k o
    → o ≡ None → length (gaps_from t (take k ps)) < length (gaps_from t ps)
gaps_before t [] k o lt is none = absurd (omega arith)
gaps_before t (Some x ∷ ps) zero o lt is none = absurd (cc)
gaps_before t (None ∷ ps) zero o lt is none = omega arith
gaps_before t (Some x ∷ ps) (suc k) o lt is none = gaps_before (t + 1) ps k o (omega arith) is none
gaps_before t (None ∷ ps) (suc k) o lt is none = let h = gaps_before (t + 1) ps k o (omega arith) is none in omega arith

-- the same by a test
pub gaps_from-push-none : {A : Type 0} (t n : ℕ) (ps : List (Option A)) (o : Option A) → is_some o ≡ false
    → t + length ps ≡ n → gaps_from t (ps ++ o ∷ []) ≡ gaps_from t ps ++ n ∷ []
gaps_from-push-none t n ps (Some x) is e = absurd (cc)
gaps_from-push-none t n ps None is e = gaps_from-none t n ps e

pub gaps_from-push-some : {A : Type 0} (t : ℕ) (ps : List (Option A)) (o : Option A) → is_some o ≡ true
    → gaps_from t (ps ++ o ∷ []) ≡ gaps_from t ps
gaps_from-push-some t ps (Some x) is = gaps_from-some t ps x
gaps_from-push-some t ps None is = absurd (cc)

-- the gaps of a list are as many as its elements that aren't there
pub length-gaps : {A : Type 0} (t : ℕ) (ps : List (Option A)) → length (gaps_from t ps) ≡ count_by not (map is_some ps)
length-gaps t ps = counts t ps ∙ is_count_by count not refl (λ h hs. more h hs) (map is_some ps)
  where
    count : List Bool → ℕ
    count [] = 0
    count (true ∷ hs) = count hs
    count (false ∷ hs) = suc (count hs)

    more : (h : Bool) (hs : List Bool) → count (h ∷ hs) ≡ cond (not h) (1 + count hs) (count hs)
    more true hs = refl
    more false hs = (let e : suc (count hs) ≡ 1 + count hs = omega arith in e)

    counts : {A : Type 0} (t : ℕ) (ps : List (Option A)) → length (gaps_from t ps) ≡ count (map is_some ps)
    counts t [] = refl
    counts t (Some x ∷ ps) = counts (t + 1) ps
    counts t (None ∷ ps) = ap suc (counts (t + 1) ps)

-- ---- sums over a list with gaps

-- the sum by a point, from place t on
abbrev pub sum_from : ℕ → ℕ → List ℕ → ℕ
sum_from point t [] = 0
sum_from point t (x ∷ xs) = bit_xor (times (power point t) x) (sum_from point (t + 1) xs)

-- the sum by a point of bytes at places
abbrev pub sum_at : ℕ → List ℕ → List ℕ → ℕ
sum_at point [] ks = 0
sum_at point (g ∷ gs) [] = 0
sum_at point (g ∷ gs) (k ∷ ks) = bit_xor (times (power point g) k) (sum_at point gs ks)

pub there-lt : (ps : List (Option ℕ)) → ((t b : ℕ) → slice_get ps t ≡ Some (Some b) → b < 256) → (t : ℕ)
    → get_or (there ps) t 0 < 256
there-lt [] h t = omega arith
there-lt (Some x ∷ ps) h zero = h 0 x refl
there-lt (Some x ∷ ps) h (suc t) = there-lt ps (λ k b e. h (suc k) b e) t
there-lt (None ∷ ps) h zero = omega arith
there-lt (None ∷ ps) h (suc t) = there-lt ps (λ k b e. h (suc k) b e) t

sum_from_is : (point t : ℕ) (xs : List ℕ)
    → sum_below (length xs) (λ i. times (power point (t + i)) (get_or xs i 0)) ≡ sum_from point t xs
sum_from_is point t [] = sum_below-none (λ i. times (power point (t + i)) 0)
sum_from_is point t (x ∷ xs) =
    sum_below-first (length xs) (λ i. times (power point (t + i)) (get_or (x ∷ xs) i 0))
    ∙ ap₂ bit_xor (ap (λ (n : ℕ). times (power point n) x) (add-zero t))
    (sum_below-same (length xs) (λ i. times (power point (t + suc i)) (get_or xs i 0))
    (λ i. times (power point (t + 1 + i)) (get_or xs i 0))
    (λ i _. ap (λ (n : ℕ). times (power point n) (get_or xs i 0))
    (let e : t + suc i ≡ t + 1 + i = omega arith in e))
    ∙ sum_from_is point (t + 1) xs)

pub weighted_from : (point : ℕ) (xs : List ℕ) → weighted point xs ≡ sum_from point 0 xs
weighted_from point xs =
    sum_below-same (length xs) (λ i. times (power point i) (get_or xs i 0))
    (λ i. times (power point (0 + i)) (get_or xs i 0))
    (λ i _. ap (λ (n : ℕ). times (power point n) (get_or xs i 0)) (let e : i ≡ 0 + i = omega arith in e))
    ∙ sum_from_is point 0 xs

pub sum_at_is : (point : ℕ) (gs ks : List ℕ) → length ks ≡ length gs
    → sum_at point gs ks ≡ sum_below (length gs) (λ l. times (power point (get_or gs l 0)) (get_or ks l 0))
sum_at_is point [] ks e = sym (sum_below-none (λ l. times (power point 0) (get_or ks l 0)))
sum_at_is point (g ∷ gs) [] e = absurd (omega arith)
sum_at_is point (g ∷ gs) (k ∷ ks) e =
    ap (bit_xor (times (power point g) k)) (sum_at_is point gs ks (let d : length ks ≡ length gs = omega arith in d))
    ∙ sym (sum_below-first (length gs) (λ l. times (power point (get_or (g ∷ gs) l 0)) (get_or (k ∷ ks) l 0)))

-- the sum over a filled list: what is there, and what fills the gaps
pub sum_from-filled : (point t : ℕ) (ps : List (Option ℕ)) (ks : List ℕ) → length ks ≡ length (gaps_from t ps)
    → sum_from point t (filled 0 ps ks) ≡ bit_xor (sum_from point t (there ps)) (sum_at point (gaps_from t ps) ks)
sum_from-filled point t [] ks e = refl
sum_from-filled point t (Some x ∷ ps) ks e =
    ap (bit_xor (times (power point t) x)) (sum_from-filled point (t + 1) ps ks e)
    ∙ sym (xor_assoc (times (power point t) x) (sum_from point (t + 1) (there ps))
    (sum_at point (gaps_from (t + 1) ps) ks))
sum_from-filled point t (None ∷ ps) [] e = absurd (omega arith)
sum_from-filled point t (None ∷ ps) (k ∷ ks) e =
    let p = times (power point t) k in
    let a = sum_from point (t + 1) (there ps) in
    let b = sum_at point (gaps_from (t + 1) ps) ks in
    ap (bit_xor p)
    (sum_from-filled point (t + 1) ps ks (let d : length ks ≡ length (gaps_from (t + 1) ps) = omega arith in d))
    ∙ sym (xor_assoc p a b) ∙ ap (λ (n : ℕ). bit_xor n b) (xor_comm p a) ∙ xor_assoc a p b
    ∙ ap (λ (n : ℕ). bit_xor n (bit_xor p b)) (sym (ap (λ (z : ℕ). bit_xor z a) (times-zero (power point t))))
