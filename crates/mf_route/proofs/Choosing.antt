-- The cheapest plan among those of all first candidates.
use Rattle.std.proofs.Common.{◌≡◌, ◌⊎◌, inl, inr, ℕ, ◌+◌, ◌<◌, List, [], ◌∷◌, length, Option, Some}
use Rattle.std.proofs.Common.{None}
use Rattle.std.proofs.Common.{Bool, true, false, if◌then◌else◌, refl, sym, ap, subst, ◌∙◌, arith}
use Rattle.std.proofs.Common.{ltb}
use Rattle.std.proofs.lemmas.Bool.{cases_lt}
use Rattle.std.proofs.lemmas.List.Elements.{All-head}
use Rattle.mf_route.specs.Plans.{Setting, IsBefore, IsCheapest, IsPlan, IsStage, cost_of}
use Rattle.mf_route.specs.Tables.{BeginsBelow, IsBestOf, IsPick, IsPlanBelow, IsPlanFrom, better_of}
use Rattle.mf_route.specs.Tables.{cheaper_pick, pick_of}
use Rattle.mf_route.specs.declared.table.Way.{Way}
use Rattle.mf_route.proofs.Orders.{costs_no_more, merged, not_behind, same_lists}

picks_if : (test : Bool) (a b : Way)
    → pick_of (if test then Some a else Some b)
    ≡ (if test then pick_of (Some a) else pick_of (Some b))
picks_if true a b = refl
picks_if false a b = refl

picks : (best new : Option Way)
    → pick_of (better_of best new) ≡ cheaper_pick (pick_of best) (pick_of new)
picks None None = refl
picks (Some old) None = refl
picks None (Some new) = refl
picks (Some old) (Some new) = picks_if (ltb new.cost old.cost) new old

module _ (s : Setting) where
  -- before the first candidate there is no plan
  pub starts : IsPick s (IsPlanBelow s 0) None
  starts [] (below, has) = absurd (omega (arith, has.some))
  starts (k ∷ rest) (below, has) = absurd (omega (arith, below))

  module _ (i : ℕ) where
    split : (plan : List ℕ) → IsPlanBelow s (i + 1) plan
        → IsPlanBelow s i plan ⊎ IsPlanFrom s i plan
    split [] (below, has) = inl (tt, has)
    split (k ∷ rest) (below, has) = elim (cases_lt k i) [
      | inl less ↦ inl (less, has)
      | inr ge ↦
          let here : k ≡ i = omega (arith, below, ge) in
          inr (rest, ap (λ n. n ∷ rest) here, has)
    ]

    left : (plan : List ℕ) → IsPlanBelow s i plan → IsPlanBelow s (i + 1) plan
    left [] (below, has) = (tt, has)
    left (k ∷ rest) (below, has) = (omega (arith, below), has)

    right : (plan : List ℕ) → IsPlanFrom s i plan → IsPlanBelow s (i + 1) plan
    right plan (rest, is, has) =
        (subst (BeginsBelow (i + 1)) (sym is) (omega arith), has)

    ordered : (l : List ℕ) (rest : List ℕ) → BeginsBelow i l → IsBefore l (i ∷ rest)
    ordered [] rest below = tt
    ordered (k ∷ l) rest below = inl below

    order : (l r : List ℕ) → IsPlanBelow s i l → IsPlanFrom s i r → IsBefore l r
    order l r (below, has) (rest, is, plan) =
        subst (λ x. IsBefore l x) (sym is) (ordered l rest below)

    -- one first candidate more
    pub goes_on : (best new : Option Way) → IsPick s (IsPlanBelow s i) (pick_of best)
        → IsPick s (IsPlanFrom s i) (pick_of new)
        → IsPick s (IsPlanBelow s (i + 1)) (pick_of (better_of best new))
    goes_on best new a b =
        subst (IsPick s (IsPlanBelow s (i + 1))) (sym (picks best new))
        (merged s (IsPlanBelow s i) (IsPlanFrom s i) (IsPlanBelow s (i + 1)) left right split order
        (pick_of best) (pick_of new) a b)

  any_below : (plan : List ℕ) → IsPlan s plan → IsPlanBelow s (length s.candidates) plan
  any_below [] has = (tt, has)
  any_below (k ∷ rest) has = ((All-head (IsStage s) k rest has.stages).there, has)

  -- the best of all is the answer
  pub cheapest : (cost : ℕ) (plan : List ℕ)
      → IsBestOf s (IsPlanBelow s (length s.candidates)) cost plan → IsCheapest s cost plan
  cheapest cost plan best = record {
    is_plan = best.is.1;
    costs = best.costs;
    least = λ other has.
        let le = costs_no_more s plan other (best.no_worse other (any_below other has)) in
        omega (arith, le, best.costs);
    first = λ other has as_much.
        not_behind s plan other (best.no_worse other (any_below other has))
        (as_much ∙ best.costs);
  }

  pub none : IsPick s (IsPlanBelow s (length s.candidates)) None → (plan : List ℕ) → IsPlan s plan
      → ⊥
  none best plan has = best plan (any_below plan has)
