-- The tables' rule, tested once by a walk along each table, and what it says of each entry.
use Rattle.std.proofs.Common.{◌≡◌, ℕ, zero, suc, ◌+◌, ◌-◌, ◌<◌, Bool, true, ◌&&◌, ◌==◌, nat_lt, List, [], ◌∷◌, length}
use Rattle.std.proofs.Common.{get_or, take, drop, get_or-take, get_or-drop, refl, sym, ap, ◌∙◌, subst, arith, eqb-true}
use Rattle.std.proofs.Common.{ltb-true, add-zero}
use Rattle.std.proofs.lemmas.Bool.{and_parts}
use Rattle.mf_code.specs.Field.{carryless, remainder, times, power}
use Rattle.mf_field.specs.declared.tables.TheConstants.{POWERS, EXPONENTS}

-- the list goes on from x by doubling
doubles : ℕ → List ℕ → Bool
doubles x [] = true
doubles x (y ∷ ys) = y == x && doubles (times x 2) ys

doubles_at : (s : ℕ) (ys : List ℕ) → doubles (power 2 s) ys ≡ true → (i : ℕ) → i < length ys
    → get_or ys i 0 ≡ power 2 (s + i)
unfolding doubles power
doubles_at s [] h i lt = absurd (omega arith)
doubles_at s (y ∷ ys) h zero lt =
    eqb-true y (power 2 s) (and_parts (y == power 2 s) (doubles (power 2 (suc s)) ys) h).0
    ∙ ap (power 2) (sym (add-zero s))
doubles_at s (y ∷ ys) h (suc i) lt =
    doubles_at (suc s) ys (and_parts (y == power 2 s) (doubles (power 2 (suc s)) ys) h).1 i (omega arith)
    ∙ ap (power 2) (let e : suc s + i ≡ s + suc i = omega arith in e)

powers_double : doubles 1 POWERS ≡ true
unfolding doubles times carryless remainder
powers_double = refl

pub powers_at : (e : ℕ) → e < 509 → get_or POWERS e 0 ≡ power 2 e
unfolding power
powers_at e lt = doubles_at 0 POWERS powers_double e lt ∙ ap (power 2) (let i : 0 + e ≡ e = omega arith in i)

-- the entries, of which the first stands for x, are indices below 255 at which the powers have x, x + 1 and so on
finds : ℕ → List ℕ → Bool
finds x [] = true
finds x (e ∷ es) = nat_lt e 255 && (get_or POWERS e 0 == x && finds (x + 1) es)

abbrev Found : ℕ → ℕ → Type 0
Found x e = (e < 255) × (get_or POWERS e 0 ≡ x)

finds_at : (x : ℕ) (es : List ℕ) → finds x es ≡ true → (i : ℕ) → i < length es → Found (x + i) (get_or es i 0)
unfolding finds
finds_at x [] h i lt = absurd (omega arith)
finds_at x (e ∷ es) h zero lt =
    let outer = and_parts (nat_lt e 255) (get_or POWERS e 0 == x && finds (x + 1) es) h in
    let inner = and_parts (get_or POWERS e 0 == x) (finds (x + 1) es) outer.1 in
    (ltb-true e 255 outer.0, eqb-true (get_or POWERS e 0) x inner.0 ∙ sym (add-zero x))
finds_at x (e ∷ es) h (suc i) lt =
    let outer = and_parts (nat_lt e 255) (get_or POWERS e 0 == x && finds (x + 1) es) h in
    let inner = and_parts (get_or POWERS e 0 == x) (finds (x + 1) es) outer.1 in
    let r = finds_at (x + 1) es inner.1 i (omega arith) in
    (r.0, r.1 ∙ (let k : x + 1 + i ≡ x + suc i = omega arith in k))

exponents_found : finds 1 (drop 1 EXPONENTS) ≡ true
unfolding finds
exponents_found = refl

-- the entry of a
abbrev pub entry : ℕ → ℕ
entry a = get_or EXPONENTS a 0

pub exponents_at : (a : ℕ) → 0 < a → a < 256 → (entry a < 255) × (power 2 (entry a) ≡ a)
exponents_at a pos la =
    let r = finds_at 1 (drop 1 EXPONENTS) exponents_found (a - 1) (omega arith) in
    let place = get_or-drop 1 EXPONENTS (a - 1) 0
    ∙ ap (λ (k : ℕ). get_or EXPONENTS k 0) (let k : 1 + (a - 1) ≡ a = omega arith in k) in
    let e = get_or EXPONENTS a 0 in
    let small : e < 255 = subst (λ (v : ℕ). v < 255) place r.0 in (
      small,
      sym (powers_at e (omega arith)) ∙ ap (λ (v : ℕ). get_or POWERS v 0) (sym place) ∙ r.1
          ∙ (let k : 1 + (a - 1) ≡ a = omega arith in k),
    )

-- ---- no exponent but the entry has the power

-- each element of the powers, from index e on, is the entry of its power
returns_to : ℕ → List ℕ → Bool
returns_to e [] = true
returns_to e (x ∷ xs) = get_or EXPONENTS x 0 == e && returns_to (e + 1) xs

returns_to_at : (e : ℕ) (xs : List ℕ) → returns_to e xs ≡ true → (i : ℕ) → i < length xs → entry (get_or xs i 0) ≡ e + i
unfolding returns_to
returns_to_at e [] h i lt = absurd (omega arith)
returns_to_at e (x ∷ xs) h zero lt = eqb-true (get_or EXPONENTS x 0) e
    (and_parts (get_or EXPONENTS x 0 == e) (returns_to (e + 1) xs) h).0 ∙ sym (add-zero e)
returns_to_at e (x ∷ xs) h (suc i) lt =
    returns_to_at (e + 1) xs (and_parts (get_or EXPONENTS x 0 == e) (returns_to (e + 1) xs) h).1 i (omega arith)
    ∙ (let k : e + 1 + i ≡ e + suc i = omega arith in k)

powers_return : returns_to 0 (take 255 POWERS) ≡ true
unfolding returns_to
powers_return = refl

pub exponent_of_power : (e a : ℕ) → e < 255 → power 2 e ≡ a → e ≡ entry a
exponent_of_power e a lt p =
    sym (ap entry (sym p ∙ sym (powers_at e (omega arith)) ∙ sym (get_or-take 255 POWERS e 0 lt))
    ∙ returns_to_at 0 (take 255 POWERS) powers_return e lt ∙ (let k : 0 + e ≡ e = omega arith in k))
