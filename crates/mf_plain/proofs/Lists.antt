-- Words and slots as lists.
use Rattle.std.proofs.Common.{◌≡◌, ◌≢◌, ℕ, zero, suc, ◌+◌, ◌*◌, ◌<◌, ◌≤◌, Bool, false, List, [], ◌∷◌, ◌++◌, length}
use Rattle.std.proofs.Common.{get_or, set, refl, sym, ap, ◌∙◌, arith}
use Rattle.mf_machine.specs.Counts.{truth}
use Rattle.mf_machine.specs.File.Home.{empty}
use Rattle.mf_vault.specs.declared.answers.Rest.{Rest}
use Rattle.mf_vault.specs.declared.answers.Rest.TheVariants as rest
use Rattle.mf_vault.specs.Resting.{word_of, home_of, words_of, homes_of}
use Rattle.mf_plain.specs.Alone.{pin_words}

pub words_set : (rs : List Rest) (i : ℕ) (r : Rest) → words_of (set rs i r) ≡ set (words_of rs) i (word_of r)
words_set [] i r = refl
words_set (x ∷ xs) zero r = refl
words_set (x ∷ xs) (suc i) r = ap (λ l. word_of x ∷ l) (words_set xs i r)

pub homes_set : (rs : List Rest) (i : ℕ) (r : Rest) → homes_of (set rs i r) ≡ set (homes_of rs) i (home_of r)
homes_set [] i r = refl
homes_set (x ∷ xs) zero r = refl
homes_set (x ∷ xs) (suc i) r = ap (λ l. home_of x ∷ l) (homes_set xs i r)

pub words_at : (rs : List Rest) (i : ℕ) → get_or (words_of rs) i 0 ≡ word_of (get_or rs i rest.Unborn)
words_at [] i = refl
words_at (x ∷ xs) zero = refl
words_at (x ∷ xs) (suc i) = words_at xs i

pub homes_at : (rs : List Rest) (i : ℕ) → get_or (homes_of rs) i empty ≡ home_of (get_or rs i rest.Unborn)
homes_at [] i = refl
homes_at (x ∷ xs) zero = refl
homes_at (x ∷ xs) (suc i) = homes_at xs i

pub words_length : (rs : List Rest) → length (words_of rs) ≡ length rs
words_length [] = refl
words_length (x ∷ xs) = ap suc (words_length xs)

pub homes_length : (rs : List Rest) → length (homes_of rs) ≡ length rs
homes_length [] = refl
homes_length (x ∷ xs) = ap suc (homes_length xs)

-- the words of generations
pub pins_length : (c : ℕ → ℕ) (g : ℕ) (bs : List Bool) → length (pin_words c g bs) ≡ length bs
pins_length c g [] = refl
pins_length c g (b ∷ bs) = ap suc (pins_length c (g + 1) bs)

pub pins_at : (c : ℕ → ℕ) (from g : ℕ) (bs : List Bool) → g < length bs
    → get_or (pin_words c from bs) g 0 ≡ 9223372036854775808 * truth (get_or bs g false) + c (from + g)
pins_at c from g [] low = absurd (omega arith)
pins_at c from zero (b ∷ bs) low =
    ap (λ k. 9223372036854775808 * truth b + c k) (let e : from ≡ from + 0 = omega arith in e)
pins_at c from (suc g) (b ∷ bs) low = pins_at c (from + 1) g bs (omega arith)
    ∙ ap (λ k. 9223372036854775808 * truth (get_or bs g false) + c k) (let e : from + 1 + g ≡ from + suc g =
    omega arith in e)

-- the same numbers of pins give the same words
pub pins_same : (c d : ℕ → ℕ) (from : ℕ) (bs : List Bool) → ((j : ℕ) → from ≤ j → c j ≡ d j)
    → pin_words c from bs ≡ pin_words d from bs
pins_same c d from [] e = refl
pins_same c d from (b ∷ bs) e = λ i. (9223372036854775808 * truth b + e from (let l : from ≤ from = omega arith in l) i)
    ∷ pins_same c d (from + 1) bs (λ j l. e j (omega arith)) i

-- one word is another
pub pins_set : (c d : ℕ → ℕ) (from g x : ℕ) (bs : List Bool) (b' : Bool) → g < length bs
    → ((j : ℕ) → j ≢ from + g → c j ≡ d j) → x ≡ 9223372036854775808 * truth b' + d (from + g)
    → pin_words d from (set bs g b') ≡ set (pin_words c from bs) g x
pins_set c d from g x [] b' low e at = absurd (omega arith)
pins_set c d from zero x (b ∷ bs) b' low e at = let z : from + 0 ≡ from = omega arith in
    let head : 9223372036854775808 * truth b' + d from ≡ x =
    ap (λ k. 9223372036854775808 * truth b' + d k) (sym z) ∙ sym at in
    let rest : pin_words d (from + 1) bs ≡ pin_words c (from + 1) bs =
    pins_same d c (from + 1) bs (λ j l. sym (e j (λ n. let m : j ≡ from + 0 = n in absurd (omega arith)))) in
    (λ i. head i ∷ rest i)
pins_set c d from (suc g) x (b ∷ bs) b' low e at = let z : from + suc g ≡ from + 1 + g = omega arith in
    let head : c from ≡ d from = e from (λ n. let m : from ≡ from + suc g = n in absurd (omega arith)) in
    let rest : pin_words d (from + 1) (set bs g b') ≡ set (pin_words c (from + 1) bs) g x =
    pins_set c d (from + 1) g x bs b' (omega arith) (λ j ne. e j (λ y. ne (y ∙ z)))
    (at ∙ ap (λ k. 9223372036854775808 * truth b' + d k) z) in
    (λ i. (9223372036854775808 * truth b + sym head i) ∷ rest i)

module _ {A : Type 0} where
  pub set_right : (xs ys : List A) (i j : ℕ) (a : A) → i ≡ length xs + j → set (xs ++ ys) i a ≡ xs ++ set ys j a
  set_right [] ys i j a e = ap (λ k. set ys k a) (let d : i ≡ j = omega arith in d)
  set_right (x ∷ xs) ys zero j a e = absurd (omega arith)
  set_right (x ∷ xs) ys (suc i) j a e = ap (λ l. x ∷ l) (set_right xs ys i j a (omega arith))

  pub get_right : (xs ys : List A) (i j : ℕ) (d : A) → i ≡ length xs + j → get_or (xs ++ ys) i d ≡ get_or ys j d
  get_right [] ys i j d e = ap (λ k. get_or ys k d) (let d : i ≡ j = omega arith in d)
  get_right (x ∷ xs) ys zero j d e = absurd (omega arith)
  get_right (x ∷ xs) ys (suc i) j d e = get_right xs ys i j d (omega arith)

  -- past the first two
  pub set_two : (a b : A) (l : List A) (i : ℕ) (x : A) → set (a ∷ b ∷ l) (i + 2) x ≡ a ∷ b ∷ set l i x
  set_two a b l i x = ap (λ k. set (a ∷ b ∷ l) k x) (let e : i + 2 ≡ suc (suc i) = omega arith in e)

  pub get_two : (a b : A) (l : List A) (i : ℕ) (d : A) → get_or (a ∷ b ∷ l) (i + 2) d ≡ get_or l i d
  get_two a b l i d = ap (λ k. get_or (a ∷ b ∷ l) k d) (let e : i + 2 ≡ suc (suc i) = omega arith in e)
