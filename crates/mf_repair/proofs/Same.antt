-- Names that are the same, and lists with each name once.
use Rattle.std.proofs.Common.{◌≡◌, ℕ, suc, ◌+◌, ◌<◌, ◌≤◌, ◌==◌, ◌&&◌, ◌||◌, Bool, true, false, not, cond, List, []}
use Rattle.std.proofs.Common.{◌∷◌, ◌++◌}
use Rattle.std.proofs.Common.{length, filter, refl, sym, ap, ◌∙◌, subst, arith, append-nil, eq-eqb, Option, Some}
use Rattle.std.proofs.Common.{None}
use Rattle.std.specs.List.{list_any}
use Rattle.std.proofs.lemmas.Bool.{false≢true, eqb-true}
use Rattle.std.proofs.lemmas.List.Elements.{filter-append}
use Rattle.std.proofs.lemmas.List.Filters.{length-filter_both}
use Rattle.mf_places.specs.declared.Name.{Name}
use Rattle.mf_places.specs.declared.Name.TheVariants as name
use Rattle.mf_repair.specs.Repair.{same_name, once}
use Rattle.mf_repair.specs.Mending.{with_found}
use Rattle.mf_repair.proofs.Listing.{both_true}

same_refl : (x : Name) → same_name x x ≡ true
same_refl (name.Data i) = eq-eqb i i refl
same_refl (name.Copy c i) = (λ k. eq-eqb c c refl k && eq-eqb i i refl k)
same_refl (name.Parity w j p) = (λ k. eq-eqb w w refl k && eq-eqb j j refl k && eq-eqb p p refl k)

pub same_is : (x y : Name) → same_name x y ≡ true → x ≡ y
same_is (name.Data i) (name.Data j) h = ap (λ n. name.Data n) (eqb-true i j h)
same_is (name.Data i) (name.Copy d j) h = absurd (false≢true h)
same_is (name.Data i) (name.Parity v j q) h = absurd (false≢true h)
same_is (name.Copy c i) (name.Data j) h = absurd (false≢true h)
same_is (name.Copy c i) (name.Copy d j) h =
    let e = both_true (c == d) (i == j) h in
    (λ k. name.Copy (eqb-true c d e.0 k) (eqb-true i j e.1 k))
same_is (name.Copy c i) (name.Parity v j q) h = absurd (false≢true h)
same_is (name.Parity w i p) (name.Data j) h = absurd (false≢true h)
same_is (name.Parity w i p) (name.Copy d j) h = absurd (false≢true h)
same_is (name.Parity w i p) (name.Parity v j q) h =
    let e = both_true ((w == v) && (i == j)) (p == q) h in
    let f = both_true (w == v) (i == j) e.0 in
    (λ k. name.Parity (eqb-true w v f.0 k) (eqb-true i j f.1 k) (eqb-true p q e.1 k))

-- ---- filters

any_kept : {A : Type 0} (p q : A → Bool) → ((z : A) → p z ≡ true → q z ≡ true) → (zs : List A)
    → list_any p (filter q zs) ≡ list_any p zs
any_kept p q h [] = refl
any_kept {A = A} p q h (z ∷ zs) = step (p z) (q z) refl refl (any_kept p q h zs) where
  step : (c d : Bool) → p z ≡ c → q z ≡ d → list_any p (filter q zs) ≡ list_any p zs
      → list_any p (cond d (z ∷ filter q zs) (filter q zs)) ≡ (p z || list_any p zs)
  step c true e f rest = ap (λ b. p z || b) rest
  step true false e f rest = absurd (false≢true (sym f ∙ h z e))
  step false false e f rest = rest ∙ ap (λ b. b || list_any p zs) (sym e)

abbrev truth : Bool → ℕ
truth b = cond b 1 0

long_by : {A : Type 0} (b : Bool) (z : A) (xs : List A) → length (cond b (z ∷ xs) xs) ≡ truth b + length xs
long_by true z xs = let t : truth true ≡ 1 = refl in omega arith
long_by false z xs = let t : truth false ≡ 0 = refl in omega arith

fewer : {A : Type 0} (p q : A → Bool) (zs : List A) → length (filter p (filter q zs)) ≤ length (filter p zs)
fewer p q [] = omega arith
fewer {A = A} p q (z ∷ zs) = step (q z) (fewer p q zs) where
  step : (d : Bool) → length (filter p (filter q zs)) ≤ length (filter p zs)
      → length (filter p (cond d (z ∷ filter q zs) (filter q zs))) ≤ length (filter p (z ∷ zs))
  step true r = let a = long_by (p z) z (filter p (filter q zs)) in let b = long_by (p z) z (filter p zs) in
      omega arith
  step false r = let b = long_by (p z) z (filter p zs) in omega arith

none_both : {A : Type 0} (p q : A → Bool) → ((z : A) → p z ≡ true → q z ≡ false) → (zs : List A)
    → length (filter p (filter q zs)) ≡ 0
none_both p q h [] = refl
none_both {A = A} p q h (z ∷ zs) = step (p z) (q z) refl refl (none_both p q h zs) where
  step : (c d : Bool) → p z ≡ c → q z ≡ d → length (filter p (filter q zs)) ≡ 0
      → length (filter p (cond d (z ∷ filter q zs) (filter q zs))) ≡ 0
  step true true e f rest = absurd (false≢true (sym (h z e) ∙ f))
  step false true e f rest = ap (λ b. length (cond b (z ∷ filter p (filter q zs)) (filter p (filter q zs)))) e ∙ rest
  step c false e f rest = rest

-- ---- each name once

-- the names that are another than x
abbrev pub others : Name → (Name × ℕ) → Bool
others x y = not (same_name x y.0)

any_once : (xs : List (Name × ℕ)) (y : Name)
    → list_any (λ (x : Name × ℕ). same_name x.0 y) (once xs) ≡ list_any (λ (x : Name × ℕ). same_name x.0 y) xs
any_once [] y = refl
any_once (x ∷ xs) y = step (same_name x.0 y) refl (any_once xs y) where
  p : Name × ℕ → Bool
  p z = same_name z.0 y

  step : (c : Bool) → same_name x.0 y ≡ c → list_any p (once xs) ≡ list_any p xs
      → (same_name x.0 y || list_any p (filter (others x.0) (once xs))) ≡ (same_name x.0 y || list_any p xs)
  step true e rest = ap (λ b. b || list_any p (filter (others x.0) (once xs))) e ∙ sym (ap
      (λ b. b || list_any p xs) e)
  step false e rest = ap (λ b. same_name x.0 y || b) (any_kept p (others x.0)
      (λ z h. ap (λ n. not (same_name x.0 n)) (same_is z.0 y h) ∙ ap not e) (once xs) ∙ rest)

once_push : (xs : List (Name × ℕ)) (y : Name × ℕ) → once (xs ++ y ∷ [])
    ≡ cond (list_any (λ (x : Name × ℕ). same_name x.0 y.0) xs) (once xs) (once xs ++ y ∷ [])
once_push [] y = refl
once_push (x ∷ xs) y = ap (λ l. x ∷ filter (others x.0) l) (once_push xs y)
    ∙ step (same_name x.0 y.0) (list_any (λ (z : Name × ℕ). same_name z.0 y.0) xs) refl
  where
    step : (c b : Bool) → same_name x.0 y.0 ≡ c
        → x ∷ filter (others x.0) (cond b (once xs) (once xs ++ y ∷ []))
        ≡ cond (c || b) (x ∷ filter (others x.0) (once xs)) ((x ∷ filter (others x.0) (once xs)) ++ y ∷ [])
    step true true e = refl
    step false true e = refl
    step true false e = ap (λ l. x ∷ l) (filter-append (others x.0) (once xs) (y ∷ [])
        ∙ (ap (λ b. filter (others x.0) (once xs) ++ cond (not b) (y ∷ []) []) e ∙ append-nil (filter (others x.0)
        (once xs))))
    step false false e = ap (λ l. x ∷ l) (filter-append (others x.0) (once xs) (y ∷ [])
        ∙ ap (λ b. filter (others x.0) (once xs) ++ cond (not b) (y ∷ []) []) e)

-- what was found, as a list
abbrev pub listed : Option (Name × ℕ) → List (Name × ℕ)
listed None = []
listed (Some x) = x ∷ []

pub with_found_is : (xs : List (Name × ℕ)) (o : Option (Name × ℕ)) → with_found (once xs) o ≡ once (xs ++ listed o)
with_found_is xs None = ap once (sym (append-nil xs))
with_found_is xs (Some y) = ap (λ b. cond b (once xs) (once xs ++ y ∷ [])) (any_once xs y.0) ∙ sym (once_push xs y)

-- ---- how many there are

most_one : (x : Name) (xs : List (Name × ℕ)) → length (filter (λ (z : Name × ℕ). same_name x z.0) (once xs)) ≤ 1
most_one x [] = omega arith
most_one x (y ∷ xs) = step (same_name x y.0) refl (most_one x xs) where
  p : Name × ℕ → Bool
  p z = same_name x z.0

  step : (c : Bool) → same_name x y.0 ≡ c → length (filter p (once xs)) ≤ 1
      → length (cond (same_name x y.0) (y ∷ filter p (filter (others y.0) (once xs))) (filter p (filter (others y.0)
      (once xs)))) ≤ 1
  step true e m =
      let l = long_by (same_name x y.0) y (filter p (filter (others y.0) (once xs))) in
      let t : truth (same_name x y.0) ≡ 1 = ap truth e in
      let n = none_both p (others y.0) (λ z h. ap not (ap (λ n. same_name n z.0) (sym (same_is x y.0 e))
      ∙ h)) (once xs) in
      omega arith
  step false e m =
      let l = long_by (same_name x y.0) y (filter p (filter (others y.0) (once xs))) in
      let t : truth (same_name x y.0) ≡ 0 = ap truth e in
      let f = fewer p (others y.0) (once xs) in
      omega arith

-- a list that has each name once already is no longer than one that it ends
pub no_fewer : (ys zs : List (Name × ℕ)) → once zs ≡ zs → length zs ≤ length (once (ys ++ zs))
no_fewer [] zs e = let l = ap length e in omega arith
no_fewer (y ∷ ys) zs e =
    let r = no_fewer ys zs e in
    let m = most_one y.0 (ys ++ zs) in
    let both = length-filter_both (λ (z : Name × ℕ). same_name y.0 z.0) (others y.0) (λ z. refl) (once (ys ++ zs)) in
    let s : length (y ∷ filter (others y.0) (once (ys ++ zs))) ≡ suc (length (filter (others y.0) (once
    (ys ++ zs)))) = refl in
    omega arith

-- what was found before isn't added
pub found_before : (items slice : List (Name × ℕ)) (o : Option (Name × ℕ)) (y : Name × ℕ) (b : Bool) → o ≡ Some y
    → b ≡ list_any (λ (x : Name × ℕ). same_name x.0 y.0) slice → slice ≡ items → b ≡ true
    → items ≡ with_found items o
found_before items slice o y b e h is held =
    sym (ap (λ q. with_found items q) e
    ∙ ap (λ c. cond c items (items ++ y ∷ [])) (ap (λ (l : List (Name × ℕ)). list_any
    (λ (x : Name × ℕ). same_name x.0 y.0) l) (sym is)
    ∙ (sym h ∙ held)))
