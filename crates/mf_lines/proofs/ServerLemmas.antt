-- Lists of different servers, and the ascending list of their set.
use Rattle.std.proofs.Common.{◌≡◌, ℕ, zero, suc, ◌+◌, ◌<◌, ◌≤◌, Bool, true, false, ◌||◌, cond, eqb, leb, List, [], ◌∷◌}
use Rattle.std.proofs.Common.{◌++◌, refl, sym, ap, ◌∙◌, subst, inl, inr, arith}
use Rattle.std.specs.List.{list_any}
use Rattle.std.specs.List.Sorted.{IsPermutation}
use Rattle.std.proofs.lemmas.Bool.{cases_Bool, cases_eq, or_parts, or_from, or_left, or_right, eqb-true, eq-eqb}
use Rattle.std.proofs.lemmas.Bool.{ne_eqb, leb-false}
use Rattle.std.proofs.lemmas.Cmp.{nat_eq_equiv}
use Rattle.std.proofs.lemmas.List.{append-nil}
use Rattle.std.proofs.lemmas.List.Sorted.{IsPermutation-refl, IsPermutation-cons, IsPermutation-to_front}
use Rattle.std.proofs.lemmas.List.Sorted.{IsPermutation-trans, IsPermutation-sym, IsPermutation-append_left}
use Rattle.std.proofs.lemmas.Map.Views.{list_any-from_Contains, Contains-from_any}
use Rattle.mf_places.specs.Servers.{is_in, set_of, servers_of}
use Rattle.mf_places.proofs.Passing.{passing, passing-more}
use Rattle.mf_places.proofs.Sets.{set_of-has, set_of-only}
use Rattle.mf_lines.specs.Lines.{has_twice}

-- whether the number stands in the list
abbrev pub has : List ℕ → ℕ → Bool
has numbers n = list_any (λ other. eqb n other) numbers

-- ---- tests on lists

pub any_append : {X : Type 0} (p : X → Bool) (xs ys : List X) → list_any p (xs ++ ys) ≡ (list_any p xs || list_any p ys)
any_append p [] ys = refl
any_append p (x ∷ xs) ys = ap (λ b. p x || b) (any_append p xs ys) ∙ assoc (p x) (list_any p xs) (list_any p ys)
  where
    assoc : (a b c : Bool) → (a || (b || c)) ≡ ((a || b) || c)
    assoc true b c = refl
    assoc false b c = refl

-- no element passes that stands in a list of which none passes
pub none_of : (p : ℕ → Bool) (ns : List ℕ) (s : ℕ) → list_any p ns ≡ false → has ns s ≡ true → p s ≡ false
none_of p [] s none h = absurd cc
none_of p (n ∷ ns) s none h =
    let parts = or_parts (p n) (list_any p ns) none in
    elim (cases_Bool (eqb s n)) [
      | inl same ↦ ap p (eqb-true s n same) ∙ parts.0
      | inr other ↦ none_of p ns s parts.1 (sym (ap (λ b. b || has ns s) other) ∙ h)
    ]

-- ---- numbers that stand twice

-- one number more, which isn't there yet
pub twice_push : (ns : List ℕ) (n : ℕ) → has_twice ns ≡ false → has ns n ≡ false → has_twice (ns ++ n ∷ []) ≡ false
twice_push [] n h new = refl
twice_push (m ∷ ns) n h new =
    let parts = or_parts (has ns m) (has_twice ns) h in
    let apart = or_parts (eqb n m) (has ns n) new in
    or_from (has (ns ++ n ∷ []) m) (has_twice (ns ++ n ∷ []))
    (any_append (λ other. eqb m other) ns (n ∷ []) ∙ or_from (has ns m) (eqb m n || false) parts.0
    (or_from (eqb m n) false (ne_eqb m n (λ same. let no = sym (eq-eqb n m (sym same)) ∙ apart.0 in cc)) refl))
    (twice_push ns n parts.1 apart.1)

-- one that is there already, whatever follows
pub twice_found : (ns : List ℕ) (n : ℕ) (more : List ℕ) → has ns n ≡ true → has_twice (ns ++ n ∷ more) ≡ true
twice_found [] n more h = absurd cc
twice_found (m ∷ ns) n more h =
    elim (cases_Bool (eqb n m)) [
      | inl same ↦
          or_left (has (ns ++ n ∷ more) m) (has_twice (ns ++ n ∷ more))
          (any_append (λ other. eqb m other) ns (n ∷ more)
          ∙ or_right (has ns m) (eqb m n || has more m)
          (or_left (eqb m n) (has more m) (eq-eqb m n (sym (eqb-true n m same)))))
      | inr other ↦
          or_right (has (ns ++ n ∷ more) m) (has_twice (ns ++ n ∷ more))
          (twice_found ns n more (sym (ap (λ b. b || has ns n) other) ∙ h))
    ]

-- ---- the numbers below n that pass a test

passing_next : (p : ℕ → Bool) (n : ℕ) → passing p (suc n) ≡ passing p n ++ cond (p n) (n ∷ []) []
passing_next p n = let next : suc n ≡ n + 1 = omega arith in ap (passing p) next ∙ passing-more p n

passing_yes : (p : ℕ → Bool) (n : ℕ) → p n ≡ true → passing p (suc n) ≡ passing p n ++ n ∷ []
passing_yes p n h = passing_next p n ∙ ap (λ b. passing p n ++ cond b (n ∷ []) []) h

passing_no : (p : ℕ → Bool) (n : ℕ) → p n ≡ false → passing p (suc n) ≡ passing p n
passing_no p n h = passing_next p n ∙ ap (λ b. passing p n ++ cond b (n ∷ []) []) h ∙ append-nil (passing p n)

passing_none : (n : ℕ) → passing (λ _. false) n ≡ []
passing_none zero = refl
passing_none (suc n) = passing_no (λ _. false) n refl ∙ passing_none n

passing_same : (p q : ℕ → Bool) (n : ℕ) → ((s : ℕ) → s < n → p s ≡ q s) → passing p n ≡ passing q n
passing_same p q zero same = refl
passing_same p q (suc n) same =
    passing_next p n
    ∙ (λ i. passing_same p q n (λ s below. same s (omega arith)) i ++ cond (same n (omega arith) i) (n ∷ []) [])
    ∙ sym (passing_next q n)

-- none of them passes another test, where none that passes the first does
pub any_passing : (p q : ℕ → Bool) (n : ℕ) → ((s : ℕ) → q s ≡ true → p s ≡ false) → list_any p (passing q n) ≡ false
any_passing p q zero h = refl
any_passing p q (suc n) h =
    elim (cases_Bool (q n)) [
      | inl holds ↦
          ap (list_any p) (passing_yes q n holds) ∙ any_append p (passing q n) (n ∷ [])
          ∙ or_from (list_any p (passing q n)) (p n || false) (any_passing p q n h)
          (or_from (p n) false (h n holds) refl)
      | inr fails ↦ ap (list_any p) (passing_no q n fails) ∙ any_passing p q n h
    ]

passing_lacks : (q : ℕ → Bool) (n k : ℕ) → n ≤ k → has (passing q n) k ≡ false
passing_lacks q zero k le = refl
passing_lacks q (suc n) k le =
    elim (cases_Bool (q n)) [
      | inl holds ↦
          ap (λ ns. has ns k) (passing_yes q n holds) ∙ any_append (λ other. eqb k other) (passing q n) (n ∷ [])
          ∙ or_from (has (passing q n) k) (eqb k n || false) (passing_lacks q n k (omega arith))
          (or_from (eqb k n) false (ne_eqb k n (λ same. omega (arith, same))) refl)
      | inr fails ↦ ap (λ ns. has ns k) (passing_no q n fails) ∙ passing_lacks q n k (omega arith)
    ]

-- none of them stands twice
pub twice_passing : (q : ℕ → Bool) (n : ℕ) → has_twice (passing q n) ≡ false
twice_passing q zero = refl
twice_passing q (suc n) =
    elim (cases_Bool (q n)) [
      | inl holds ↦
          ap has_twice (passing_yes q n holds)
          ∙ twice_push (passing q n) n (twice_passing q n) (passing_lacks q n n (omega arith))
      | inr fails ↦ ap has_twice (passing_no q n fails) ∙ twice_passing q n
    ]

-- ---- different numbers are the ascending ones in another order

abbrev or_is : ℕ → (ℕ → Bool) → ℕ → Bool
or_is x q s = eqb s x || q s

one_far : (x : ℕ) (q : ℕ → Bool) (n : ℕ) → n ≤ x → passing (or_is x q) n ≡ passing q n
one_far x q n le =
    passing_same (or_is x q) q n
    (λ s below. ap (λ b. b || q s) (ne_eqb s x (λ same. omega (arith, same))))

one_more : (x : ℕ) (q : ℕ → Bool) (n : ℕ) → x < n → q x ≡ false
    → IsPermutation (x ∷ passing q n) (passing (or_is x q) n)
one_more x q zero lt new = absurd (omega arith)
one_more x q (suc n) lt new =
    elim (cases_eq n x) [
      | inl same ↦
          let holds : or_is x q n ≡ true = or_left (eqb n x) (q n) (eq-eqb n x same) in
          let with : passing (or_is x q) (suc n) ≡ passing q n ++ x ∷ [] =
          passing_yes (or_is x q) n holds
          ∙ (λ i. one_far x q n (omega (arith, same)) i ++ same i ∷ []) in
          let without : passing q (suc n) ≡ passing q n = passing_no q n (ap q same ∙ new) in
          subst (λ ys. IsPermutation (x ∷ passing q (suc n)) ys) (sym with)
          (subst (λ ys. IsPermutation (x ∷ ys) (passing q n ++ x ∷ [])) (sym without)
          (IsPermutation-sym (passing q n ++ x ∷ []) (x ∷ passing q n) (IsPermutation-to_front (passing q n) x)))
      | inr other ↦
          let apart : eqb n x ≡ false = ne_eqb n x other in
          let rest = one_more x q n (omega (arith, other)) new in
          elim (cases_Bool (q n)) [
            | inl holds ↦
                subst (λ ys. IsPermutation (x ∷ passing q (suc n)) ys)
                (sym (passing_yes (or_is x q) n (or_right (eqb n x) (q n) holds)))
                (subst (λ ys. IsPermutation (x ∷ ys) (passing (or_is x q) n ++ n ∷ [])) (sym (passing_yes q n holds))
                (IsPermutation-append_left (n ∷ []) (x ∷ passing q n) (passing (or_is x q) n) rest))
            | inr fails ↦
                subst (λ ys. IsPermutation (x ∷ passing q (suc n)) ys)
                (sym (passing_no (or_is x q) n (or_from (eqb n x) (q n) apart fails)))
                (subst (λ ys. IsPermutation (x ∷ ys) (passing (or_is x q) n)) (sym (passing_no q n fails)) rest)
          ]
    ]

ascending : (ns : List ℕ) (n : ℕ) → has_twice ns ≡ false → list_any (leb n) ns ≡ false
    → IsPermutation ns (passing (has ns) n)
ascending [] n apart below = subst (IsPermutation []) (sym (passing_none n)) (IsPermutation-refl [])
ascending (x ∷ ns) n apart below =
    let parts = or_parts (has ns x) (has_twice ns) apart in
    let small = or_parts (leb n x) (list_any (leb n) ns) below in
    let lt : x < n = leb-false n x small.0 in
    IsPermutation-trans (x ∷ ns) (x ∷ passing (has ns) n) (passing (or_is x (has ns)) n)
    (IsPermutation-cons x ns (passing (has ns) n) (ascending ns n parts.1 small.1))
    (one_more x (has ns) n lt parts.0)

-- ---- the servers of a list's set

in_set : (ns : List ℕ) (s : ℕ) → s < 128 → is_in (set_of ns) s ≡ has ns s
in_set ns s below =
    elim (cases_Bool (has ns s)) [
      | inl holds ↦
          eq-eqb _ 1 (set_of-has ns s below (Contains-from_any (λ x y h. eqb-true x y h) s ns holds)) ∙ sym holds
      | inr fails ↦
          elim (cases_Bool (is_in (set_of ns) s)) [
            | inl is ↦
                let there = list_any-from_Contains nat_eq_equiv s ns (set_of-only ns s (eqb-true _ 1 is)).1 in
                let never = sym there ∙ fails in
                absurd cc
            | inr not ↦ not ∙ sym fails
          ]
    ]

pub servers_are : (ns : List ℕ) → servers_of (set_of ns) ≡ passing (has ns) 128
unfolding servers_of
servers_are ns = passing_same (is_in (set_of ns)) (has ns) 128 (in_set ns)

pub reordered : (ns : List ℕ) → has_twice ns ≡ false → list_any (leb 128) ns ≡ false
    → IsPermutation ns (servers_of (set_of ns))
reordered ns apart below = subst (IsPermutation ns) (sym (servers_are ns)) (ascending ns 128 apart below)
