-- Lists in order, and the best of two kinds of lists.
use Rattle.std.proofs.Common.{◌≡◌, ◌⊎◌, inl, inr, ℕ, ◌+◌, ◌<◌, ◌≤◌, List, [], ◌∷◌, Option, Some}
use Rattle.std.proofs.Common.{None}
use Rattle.std.proofs.Common.{Bool, true, false, if◌then◌else◌, refl, sym, ap, subst, ◌∙◌, arith}
use Rattle.std.proofs.Common.{ltb}
use Rattle.std.proofs.lemmas.Bool.{cases_lt, ltb-true, ltb-false}
use Rattle.mf_route.specs.Plans.{Setting, IsBefore, candidate, cost_of, leg}
use Rattle.mf_route.specs.Tables.{IsBestOf, IsNoWorse, IsPick, cheaper_pick}

not_itself : (xs : List ℕ) → IsBefore xs xs → ⊥
not_itself [] before = before
not_itself (x ∷ xs) (inl less) = absurd (omega (arith, less))
not_itself (x ∷ xs) (inr (same, before)) = not_itself xs before

before_then : (xs ys zs : List ℕ) → IsBefore xs ys → IsBefore ys zs → IsBefore xs zs
before_then [] [] zs a b = absurd a
before_then [] (y ∷ ys) [] a b = absurd b
before_then [] (y ∷ ys) (z ∷ zs) a b = tt
before_then (x ∷ xs) [] zs a b = absurd a
before_then (x ∷ xs) (y ∷ ys) [] a b = absurd b
before_then (x ∷ xs) (y ∷ ys) (z ∷ zs) (inl a) (inl b) = inl (omega (arith, a, b))
before_then (x ∷ xs) (y ∷ ys) (z ∷ zs) (inl a) (inr (e, b)) = inl (omega (arith, a, e))
before_then (x ∷ xs) (y ∷ ys) (z ∷ zs) (inr (e, a)) (inl b) = inl (omega (arith, b, e))
before_then (x ∷ xs) (y ∷ ys) (z ∷ zs) (inr (e, a)) (inr (f, b)) =
    inr (e ∙ f, before_then xs ys zs a b)

le_cases : (c d : ℕ) → c ≤ d → (c < d) ⊎ (c ≡ d)
le_cases c d le = elim (cases_lt c d) [
  | inl less ↦ inl less
  | inr ge ↦ inr (omega (arith, le, ge))
]

module _ (s : Setting) where
  pub same : (p : List ℕ) → IsNoWorse s p p
  same p = inr (refl, inl refl)

  at_or_before : (p q r : List ℕ) → (p ≡ q) ⊎ IsBefore p q → (q ≡ r) ⊎ IsBefore q r
      → (p ≡ r) ⊎ IsBefore p r
  at_or_before p q r (inl a) (inl b) = inl (a ∙ b)
  at_or_before p q r (inl a) (inr b) = inr (subst (λ l. IsBefore l r) (sym a) b)
  at_or_before p q r (inr a) (inl b) = inr (subst (λ l. IsBefore p l) b a)
  at_or_before p q r (inr a) (inr b) = inr (before_then p q r a b)

  pub after : (p q r : List ℕ) → IsNoWorse s p q → IsNoWorse s q r → IsNoWorse s p r
  after p q r (inl a) (inl b) = inl (omega (arith, a, b))
  after p q r (inl a) (inr (e, b)) = inl (omega (arith, a, e))
  after p q r (inr (e, a)) (inl b) = inl (omega (arith, b, e))
  after p q r (inr (e, a)) (inr (f, b)) = inr (e ∙ f, at_or_before p q r a b)

  -- what is no worse costs no more, and isn't behind where it costs as much
  pub costs_no_more : (p q : List ℕ) → IsNoWorse s p q → cost_of s p ≤ cost_of s q
  costs_no_more p q (inl a) = omega (arith, a)
  costs_no_more p q (inr (e, a)) = omega (arith, e)

  pub not_behind : (p q : List ℕ) → IsNoWorse s p q → cost_of s q ≡ cost_of s p → IsBefore q p → ⊥
  not_behind p q (inl a) e before = absurd (omega (arith, a, e))
  not_behind p q (inr (e, inl is)) f before =
      not_itself p (subst (λ l. IsBefore l p) (sym is) before)
  not_behind p q (inr (e, inr a)) f before = not_itself p (before_then p q p a before)

  more : (c a b : ℕ) → a < b → c + a < c + b
  more c a b less = omega (arith, less)

  -- the same candidate in front of both
  pub in_front : (i j : ℕ) (p q : List ℕ) → IsNoWorse s (j ∷ p) (j ∷ q)
      → IsNoWorse s (i ∷ j ∷ p) (i ∷ j ∷ q)
  in_front i j p q (inl a) =
      inl (more (leg s (candidate s i) (candidate s j)) (cost_of s (j ∷ p)) (cost_of s (j ∷ q)) a)
  in_front i j p q (inr (e, inl is)) =
      inr (ap (λ n. leg s (candidate s i) (candidate s j) + n) e, inl (ap (λ l. i ∷ l) is))
  in_front i j p q (inr (e, inr a)) =
      inr (ap (λ n. leg s (candidate s i) (candidate s j) + n) e, inr (inr (refl, a)))

  -- the best of the lists that have P or Q, where each that has P comes before each that has Q
  module _ (P Q R : List ℕ → Type 0) (left : (l : List ℕ) → P l → R l)
      (right : (l : List ℕ) → Q l → R l) (split : (l : List ℕ) → R l → P l ⊎ Q l)
      (order : (l m : List ℕ) → P l → Q m → IsBefore l m) where
    old_stays : (c d : ℕ) (l m : List ℕ) → IsBestOf s P c l → IsBestOf s Q d m → c ≤ d
        → IsNoWorse s l m
    old_stays c d l m a b le = elim (le_cases c d le) [
      | inl less ↦ inl (omega (arith, less, a.costs, b.costs))
      | inr is ↦ inr (omega (arith, is, a.costs, b.costs), inr (order l m a.is b.is))
    ]

    by_old : (c d : ℕ) (l m : List ℕ) → IsBestOf s P c l → IsBestOf s Q d m → c ≤ d
        → IsBestOf s R c l
    by_old c d l m a b le = record {
      is = left l a.is;
      costs = a.costs;
      no_worse = λ other has. elim (split other has) [
        | inl p ↦ a.no_worse other p
        | inr q ↦ after l m other (old_stays c d l m a b le) (b.no_worse other q)
      ];
    }

    by_new : (c d : ℕ) (l m : List ℕ) → IsBestOf s P c l → IsBestOf s Q d m → d < c
        → IsBestOf s R d m
    by_new c d l m a b less = record {
      is = right m b.is;
      costs = b.costs;
      no_worse = λ other has. elim (split other has) [
        | inl p ↦ after m l other (inl (omega (arith, less, a.costs, b.costs))) (a.no_worse other p)
        | inr q ↦ b.no_worse other q
      ];
    }

    chosen : (a b : ℕ × List ℕ) (test : Bool) → test ≡ ltb b.0 a.0 → IsBestOf s P a.0 a.1
        → IsBestOf s Q b.0 b.1 → IsPick s R (if test then Some b else Some a)
    chosen a b true is x y = by_new a.0 b.0 a.1 b.1 x y (ltb-true b.0 a.0 (sym is))
    chosen a b false is x y = by_old a.0 b.0 a.1 b.1 x y (ltb-false b.0 a.0 (sym is))

    pub merged : (a b : Option (ℕ × List ℕ)) → IsPick s P a → IsPick s Q b
        → IsPick s R (cheaper_pick a b)
    merged None None x y = λ l has. elim (split l has) [ inl p ↦ x l p | inr q ↦ y l q ]
    merged (Some a) None x y = record {
      is = left a.1 x.is;
      costs = x.costs;
      no_worse = λ other has. elim (split other has) [
        | inl p ↦ x.no_worse other p
        | inr q ↦ absurd (y other q)
      ];
    }
    merged None (Some b) x y = record {
      is = right b.1 y.is;
      costs = y.costs;
      no_worse = λ other has. elim (split other has) [
        | inl p ↦ absurd (x other p)
        | inr q ↦ y.no_worse other q
      ];
    }
    merged (Some a) (Some b) x y = chosen a b (ltb b.0 a.0) refl x y

  -- the lists are the same
  pub same_lists : (P Q : List ℕ → Type 0) (pick : Option (ℕ × List ℕ))
      → ((l : List ℕ) → P l → Q l) → ((l : List ℕ) → Q l → P l) → IsPick s P pick → IsPick s Q pick
  same_lists P Q None to from x = λ l has. x l (from l has)
  same_lists P Q (Some a) to from x = record {
    is = to a.1 x.is;
    costs = x.costs;
    no_worse = λ other has. x.no_worse other (from other has);
  }
