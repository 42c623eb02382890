-- Lists read by `get_elem?`, and how often something stands in a list.
use Rattle.std.proofs.Common.{◌≡◌, ◌≢◌, ◌⊎◌, ℕ, zero, suc, ◌+◌, ◌<◌, ◌≤◌, min, List, [], ◌∷◌, ◌++◌, get_or, set, sym}
use Rattle.std.proofs.Common.{refl, ap, ◌∙◌, subst, ⊎_elim, inl, inr, arith, Bool, true, false, cond, eq-eqb, ne_eqb}
use Rattle.std.proofs.lemmas.Bool.{lt-ltb, le-ltb}
use mathlib.Core.Option.{some, some-injective, some-ne-none}
use mathlib.Core.Logic.{dite}
use native.Mathlib.Decide.{ℕ_discrete, dec_le}
use lib.ListN.{get_elem?}
use Rattle.mf_machine.specs.declared.view.Loss.{Loss}
use Rattle.mf_machine.specs.Counts.{bit, truth, times, losses, lines, without, those, up_to, beyond}

module _ {A : Type 0} where
  pub at_set : (l : List A) (i j : ℕ) (a b : A) → get_elem? (set l i a) j ≡ some b → ((j ≡ i) × (a ≡ b)) ⊎
      ((j ≢ i) × (get_elem? l j ≡ some b))
  at_set [] i j a b e = absurd (some-ne-none b (sym e))
  at_set (x ∷ xs) zero zero a b e = inl (refl, some-injective a b e)
  at_set (x ∷ xs) zero (suc j) a b e = inr ((λ h. omega arith), e)
  at_set (x ∷ xs) (suc i) zero a b e = inr ((λ h. omega arith), e)
  at_set (x ∷ xs) (suc i) (suc j) a b e = ⊎_elim (λ t. inl (ap suc t.0, t.1)) (λ t. let n = t.0 in
      inr ((λ h. n (omega arith)), t.1)) (at_set xs i j a b e)

  pub at_snoc : (l : List A) (a b : A) (j : ℕ) → get_elem? (l ++ a ∷ []) j ≡ some b → (get_elem? l j ≡ some b) ⊎ (a ≡ b)
  at_snoc [] a b zero e = inr (some-injective a b e)
  at_snoc [] a b (suc j) e = absurd (some-ne-none b (sym e))
  at_snoc (x ∷ xs) a b zero e = inl e
  at_snoc (x ∷ xs) a b (suc j) e = at_snoc xs a b j e

  pub at_append : (xs ys : List A) (i : ℕ) (m : A) → get_elem? (xs ++ ys) i ≡ some m
      → ((j : ℕ) × (get_elem? xs j ≡ some m)) ⊎ ((j : ℕ) × (get_elem? ys j ≡ some m))
  at_append [] ys i m e = inr (i, e)
  at_append (x ∷ xs) ys zero m e = inl (0, e)
  at_append (x ∷ xs) ys (suc i) m e = ⊎_elim (λ t. inl (suc t.0, t.1)) (λ t. inr t) (at_append xs ys i m e)

  -- what stands elsewhere stays
  pub stays : (l : List A) (i j : ℕ) (a b : A) → j ≢ i → get_elem? l j ≡ some b → get_elem? (set l i a) j ≡ some b
  stays [] i j a b ne e = e
  stays (x ∷ xs) zero zero a b ne e = absurd (ne refl)
  stays (x ∷ xs) zero (suc j) a b ne e = e
  stays (x ∷ xs) (suc i) zero a b ne e = e
  stays (x ∷ xs) (suc i) (suc j) a b ne e = stays xs i j a b (λ h. ne (ap suc h)) e

  -- what `get_elem?` finds is what `get_or` reads
  pub read_at : (l : List A) (i : ℕ) (a d : A) → get_elem? l i ≡ some a → get_or l i d ≡ a
  read_at [] i a d e = absurd (some-ne-none a (sym e))
  read_at (x ∷ xs) zero a d e = some-injective x a e
  read_at (x ∷ xs) (suc i) a d e = read_at xs i a d e

  -- and the other way round, where it doesn't read the default
  pub at_read : (l : List A) (i : ℕ) (d : A) → (get_or l i d ≡ d → ⊥) → get_elem? l i ≡ some (get_or l i d)
  at_read [] i d h = absurd (h refl)
  at_read (x ∷ xs) zero d h = refl
  at_read (x ∷ xs) (suc i) d h = at_read xs i d h

-- the bit of two numbers
pub bit_is : (a b : ℕ) → a ≡ b → bit a b ≡ 1
bit_is a b e = ap (λ (c : Bool). cond c 1 0) (eq-eqb a b e)

pub bit_not : (a b : ℕ) → a ≢ b → bit a b ≡ 0
bit_not a b ne = ap (λ (c : Bool). cond c 1 0) (ne_eqb a b ne)

pub bit_eq : (a b : ℕ) → 0 < bit a b → a ≡ b
bit_eq a b h = dite (ℕ_discrete a b) (λ e. e) (λ ne. let z = bit_not a b ne in absurd (omega arith))

pub bit_le : (a b : ℕ) → bit a b ≤ 1
bit_le a b = dite (ℕ_discrete a b) (λ e. let z = bit_is a b e in omega arith) (λ ne. let z = bit_not a b ne in
    omega arith)

-- the number of a test
pub truth_is : (b : Bool) → b ≡ true → truth b ≡ 1
truth_is b e = ap truth e

pub truth_true : (b : Bool) → 0 < truth b → b ≡ true
truth_true true h = refl
truth_true false h = absurd (omega arith)

pub truth_le : (b : Bool) → truth b ≤ 1
truth_le true = omega arith
truth_le false = omega arith

-- times
pub times_cons : (m n : ℕ) (xs : List ℕ) (P : Type 0) → (m ≡ n → P) → (0 < times m xs → P) → 0 < times m (n ∷ xs) → P
times_cons m n xs P here there h = dite (ℕ_discrete n m) (λ e. here (sym e)) (λ ne. there (let z = bit_not n m ne in
    omega arith))

pub times_here : (n : ℕ) (xs : List ℕ) → times n (n ∷ xs) ≡ 1 + times n xs
times_here n xs = let z = bit_is n n refl in omega arith

pub times_else : (m n : ℕ) (xs : List ℕ) → m ≢ n → times m (n ∷ xs) ≡ times m xs
times_else m n xs ne = let z = bit_not n m (λ h. ne (sym h)) in omega arith

pub times_more : (m n : ℕ) (xs : List ℕ) → times m xs ≤ times m (n ∷ xs)
times_more m n xs = omega arith

pub times-append : (n : ℕ) (xs ys : List ℕ) → times n (xs ++ ys) ≡ times n xs + times n ys
times-append n [] ys = omega arith
times-append n (x ∷ xs) ys = let r = times-append n xs ys in omega arith

-- a fact of each entry of two lists
pub times_either : (n : ℕ) (xs ys : List ℕ) (P : Type 0) → (0 < times n xs → P) → (0 < times n ys → P) → 0 < times n
    (xs ++ ys) → P
times_either n xs ys P left right h = let e = times-append n xs ys in
    dite (ℕ_discrete (times n xs) 0) (λ z. right (omega arith)) (λ z. left (omega arith))

pub without_here : (n : ℕ) (xs : List ℕ) → times n (without n xs) ≡ 0
without_here n [] = refl
without_here n (x ∷ xs) = dite (ℕ_discrete x n)
    (λ e. subst (λ (b : Bool). times n (cond b (without n xs) (x ∷ without n xs)) ≡ 0)
    (sym (eq-eqb x n e)) (without_here n xs))
    (λ ne. subst (λ (b : Bool). times n (cond b (without n xs) (x ∷ without n xs)) ≡ 0) (sym (ne_eqb x n ne))
    (times_else n x (without n xs)
    (λ e. ne (sym e)) ∙ without_here n xs))

pub without_le : (m n : ℕ) (xs : List ℕ) → times m (without n xs) ≤ times m xs
without_le m n [] = omega arith
without_le m n (x ∷ xs) = let r = without_le m n xs in
    dite (ℕ_discrete x n) (λ e. subst (λ (b : Bool). times m (cond b (without n xs)
    (x ∷ without n xs)) ≤ times m (x ∷ xs)) (sym (eq-eqb x n e)) (omega arith))
    (λ ne. subst (λ (b : Bool). times m (cond b (without n xs) (x ∷ without n xs)) ≤ times m (x ∷ xs))
    (sym (ne_eqb x n ne)) (omega arith))

-- what stays in the list without n is another number, and stood there
pub without_from : (m n : ℕ) (xs : List ℕ) → 0 < times m (without n xs) → (m ≢ n) × (0 < times m xs)
without_from m n xs h = let a = without_le m n xs in (
  (λ e. let z = subst (λ y. 0 < times y (without n xs)) e h in
      let b = without_here n xs in omega arith),
  omega arith,
)

-- losses and lines
pub losses-append : (n : ℕ) (xs ys : List Loss) → losses n (xs ++ ys) ≡ losses n xs + losses n ys
losses-append n [] ys = omega arith
losses-append n (x ∷ xs) ys = let r = losses-append n xs ys in omega arith

pub lines-append : (n l : ℕ) (xs ys : List Loss) → lines n l (xs ++ ys) ≡ lines n l xs + lines n l ys
lines-append n l [] ys = omega arith
lines-append n l (x ∷ xs) ys = let r = lines-append n l xs ys in omega arith

pub losses_here : (n l : ℕ) (xs : List Loss) → losses n ((record { name = n; line = l }) ∷ xs) ≡ 1 + losses n xs
losses_here n l xs = let z = bit_is n n refl in omega arith

pub losses_else : (m n l : ℕ) (xs : List Loss) → m ≢ n → losses m ((record { name = n; line = l }) ∷ xs) ≡ losses m xs
losses_else m n l xs ne = let z = bit_not n m (λ h. ne (sym h)) in omega arith

pub lines_here : (n l : ℕ) (xs : List Loss) → lines n l ((record { name = n; line = l }) ∷ xs) ≡ 1 + lines n l xs
lines_here n l xs = (λ i. cond (eq-eqb n n refl i) (bit l l) 0 + lines n l xs) ∙ ap (λ (z : ℕ). z + lines n l xs)
    (bit_is l l refl)

-- an entry of a longer list of losses is the first, or an earlier one
pub lines_cons : (n l : ℕ) (x : Loss) (xs : List Loss) (P : Type 0) → (n ≡ x.name → l ≡ x.line → P)
    → (0 < lines n l xs → P) → 0 < lines n l (x ∷ xs) → P
lines_cons n l x xs P here there h = dite (ℕ_discrete x.name n)
    (λ e. dite (ℕ_discrete x.line l) (λ d. here (sym e) (sym d))
    (λ ne. there (let y : lines n l (x ∷ xs) ≡ bit x.line l + lines n l xs =
    (λ i. cond (eq-eqb x.name n e i) (bit x.line l) 0 + lines n l xs) in let z = bit_not x.line l ne in omega arith)))
    (λ ne. there (let y : lines n l (x ∷ xs) ≡ 0 + lines n l xs = (λ i. cond (ne_eqb x.name n ne i)
    (bit x.line l) 0 + lines n l xs) in omega arith))

-- the numbers below n for which a test is true
pub those_from : (p : ℕ → Bool) (n x : ℕ) → 0 < times x (those p n) → (x < n) × (p x ≡ true)
those_from p zero x h = absurd (omega arith)
those_from p (suc n) x h = by (those_from p n x) (p n) refl h
  where
    by : (0 < times x (those p n) → (x < n) × (p x ≡ true)) → (b : Bool) → p n ≡ b → 0 < times x (cond b (n ∷ those p n)
        (those p n)) → (x < suc n) × (p x ≡ true)
    by r true e l = times_cons x n (those p n) ((x < suc n) × (p x ≡ true)) (λ d. (omega arith, ap p d ∙ e))
        (λ q. let t = r q in
        let u = t.0 in (omega arith, t.1)) l
    by r false e l = let t = r l in let u = t.0 in (omega arith, t.1)

pub those_has : (p : ℕ → Bool) (n x : ℕ) → x < n → p x ≡ true → 0 < times x (those p n)
those_has p zero x l e = absurd (omega arith)
those_has p (suc n) x l e = dite (ℕ_discrete x n)
    (λ d. subst (λ (b : Bool). 0 < times x (cond b (n ∷ those p n) (those p n))) (sym (ap p (sym d) ∙ e))
    (let z = bit_is n x (sym d) in omega arith))
    (λ ne. more (p n) (those p n) (those_has p n x (omega arith) e))
  where
    more : (b : Bool) (xs : List ℕ) → 0 < times x xs → 0 < times x (cond b (n ∷ xs) xs)
    more true xs h = omega arith
    more false xs h = h

-- a list is cut in two by how often each number stands in it
pub up_to_is : (c g : ℕ) (xs : List ℕ) → times g (up_to c xs) ≡ min (times g xs) c
up_to_is c g [] = omega arith
up_to_is c g (x ∷ xs) = let r = up_to_is c g xs in let rx = up_to_is c x xs in dite (dec_le c (times x xs))
    (λ l. subst (λ (b : Bool). times g (cond b (x ∷ up_to c xs) (up_to c xs)) ≡ min (times g (x ∷ xs)) c)
    (sym (le-ltb (times x xs) c l))
    (dite (ℕ_discrete x g) (λ e. let z = bit_is x g e in let w = ap (λ (y : ℕ). times y xs) e in omega arith)
    (λ ne. let z = bit_not x g ne in omega arith)))
    (λ l. subst (λ (b : Bool). times g (cond b (x ∷ up_to c xs) (up_to c xs)) ≡ min (times g (x ∷ xs)) c)
    (sym (lt-ltb (times x xs) c (omega arith)))
    (dite (ℕ_discrete x g) (λ e. let z = bit_is x g e in let w = ap (λ (y : ℕ). times y xs) e in omega arith)
    (λ ne. let z = bit_not x g ne in omega arith)))

pub beyond_is : (c g : ℕ) (xs : List ℕ) → times g (up_to c xs) + times g (beyond c xs) ≡ times g xs
beyond_is c g [] = omega arith
beyond_is c g (x ∷ xs) = let r = beyond_is c g xs in dite (dec_le c (times x xs))
    (λ l. subst (λ (b : Bool). times g (cond b (x ∷ up_to c xs) (up_to c xs)) + times g (cond b (beyond c xs)
    (x ∷ beyond c xs)) ≡ times g (x ∷ xs))
    (sym (le-ltb (times x xs) c l)) (omega arith))
    (λ l. subst (λ (b : Bool). times g (cond b (x ∷ up_to c xs) (up_to c xs)) + times g (cond b (beyond c xs)
    (x ∷ beyond c xs)) ≡ times g (x ∷ xs))
    (sym (lt-ltb (times x xs) c (omega arith))) (omega arith))
