-- Ways on and plans, and how a table grows by one candidate.
use Rattle.std.proofs.Common.{◌≡◌, ◌⊎◌, inl, inr, ℕ, zero, suc, ◌+◌, ◌-◌, ◌<◌, ◌≤◌, List, [], ◌∷◌}
use Rattle.std.proofs.Common.{length}
use Rattle.std.proofs.Common.{get_or, IfSome, IfNone, Option, Some, None, Bool, true, false}
use Rattle.std.proofs.Common.{if◌then◌else◌, refl}
use Rattle.std.proofs.Common.{sym}
use Rattle.std.proofs.Common.{ap, subst, ◌∙◌, arith, ltb, leb}
use Rattle.std.proofs.lemmas.Bool.{cases_lt, leb-true, leb-false}
use Rattle.std.proofs.lemmas.List.{get_or_default}
use Rattle.std.proofs.lemmas.List.Elements.{All-cons, All-get_or, All-head, All-nil, All-tail}
use Rattle.std.specs.List.{All}
use Rattle.mf_route.specs.Plans.{Setting, AreLinked, IsCandidate, IsChange, IsPlan, IsStage}
use Rattle.mf_route.specs.Plans.{MayFollow, IsBefore, candidate, cost_of, last_of, leg, nobody}
use Rattle.mf_route.specs.Plans.{stay}
use Rattle.mf_route.specs.Tables.{BeginsBelow, IsBestOf, IsChoice, IsEntry, IsNoWorse, IsPick}
use Rattle.mf_route.specs.Tables.{IsPlanFrom, IsSetting, IsTable, IsWay, IsWayBelow, IsWayFrom}
use Rattle.mf_route.specs.Tables.{behind}
use Rattle.mf_route.specs.Tables.{cheaper_of, cheaper_pick, ending_of, pick_by, pick_of, stages_of}
use Rattle.mf_route.specs.declared.table.Choice.{Choice}
use Rattle.mf_route.specs.declared.table.Table.{Table}
use Rattle.mf_route.specs.declared.table.Way.{Way}
use Rattle.mf_route.proofs.Orders.{in_front, merged, same, same_lists}

module _ (s : Setting) (room m i : ℕ) where
  -- the ways on from candidate i to candidate j
  abbrev pub IsThrough : ℕ → List ℕ → Type 0
  IsThrough j way =
      (rest : List ℕ) × (way ≡ i ∷ j ∷ rest) × IsWay s room (suc m) (i ∷ j ∷ rest)

  pub split : (j : ℕ) (way : List ℕ) → IsWayBelow s room (suc m) i (j + 1) way
      → IsWayBelow s room (suc m) i j way ⊎ IsThrough j way
  split j way ([], is, below, has) = inl ([], is, tt, has)
  split j way (k ∷ rest, is, below, has) = elim (cases_lt k j) [
    | inl less ↦ inl (k ∷ rest, is, less, has)
    | inr ge ↦
        let here : k ≡ j = omega (arith, below, ge) in
        let there = is ∙ ap (λ n. i ∷ n ∷ rest) here in
        inr (rest, there, subst (IsWay s room (suc m)) there has)
  ]

  pub below_more : (j : ℕ) (way : List ℕ) → IsWayBelow s room (suc m) i j way
      → IsWayBelow s room (suc m) i (j + 1) way
  below_more j way ([], is, below, has) = ([], is, tt, has)
  below_more j way (k ∷ rest, is, below, has) = (k ∷ rest, is, omega (arith, below), has)

  pub through_below : (j : ℕ) (way : List ℕ) → IsThrough j way
      → IsWayBelow s room (suc m) i (j + 1) way
  through_below j way (rest, is, has) =
      (j ∷ rest, is, omega arith, subst (IsWay s room (suc m)) (sym is) has)

  in_order : (rest other : List ℕ) (j : ℕ) → BeginsBelow j rest
      → IsBefore (i ∷ rest) (i ∷ j ∷ other)
  in_order [] other j below = inr (refl, tt)
  in_order (k ∷ rest) other j below = inr (refl, inl below)

  pub order : (j : ℕ) (l r : List ℕ) → IsWayBelow s room (suc m) i j l → IsThrough j r
      → IsBefore l r
  order j l r (rest, is, below, has) (other, there, through) =
      subst (λ x. IsBefore x r) (sym is)
      (subst (λ x. IsBefore (i ∷ rest) x) (sym there) (in_order rest other j below))

  -- those that end at candidate i
  only_end : (way : List ℕ) → IsWayBelow s room (suc m) i (i + 1) way
      → (way ≡ i ∷ []) × IsWay s room (suc m) (i ∷ [])
  only_end way ([], is, below, has) = (is, subst (IsWay s room (suc m)) is has)
  only_end way (k ∷ rest, is, below, has) =
      let w = subst (IsWay s room (suc m)) is has in absurd (omega (arith, below, w.1.0))

  ends : (fits : Bool) → fits ≡ leb (candidate s i).width room → IsStage s i
      → IsPick s (IsWayBelow s room (suc m) i (i + 1))
      (if fits then Some (stay s (candidate s i), i ∷ []) else None)
  ends true is stage = record {
    is = ([], refl, tt, (stage, leb-true (candidate s i).width room (sym is)));
    costs = refl;
    no_worse = λ other has.
        subst (λ l. IsNoWorse s (i ∷ []) l) (sym (only_end other has).0) (same s (i ∷ []));
  }
  ends false is stage = λ way has.
      absurd (omega (arith, leb-false (candidate s i).width room (sym is), (only_end way has).1.1))

module _ (s : Setting) (table : Table) (i : ℕ) where
  ending_pick : (fits : Bool)
      → pick_by table i
      (if fits then Some (record { cost = stay s (candidate s i); next = None }) else None)
      ≡ (if fits then Some (stay s (candidate s i), i ∷ []) else None)
  ending_pick true = refl
  ending_pick false = refl

  -- before the first candidate behind it, the best choice is to end there
  pub starts : IsStage s i → IsChoice s table i (i + 1) (ending_of s table.room i)
  starts stage =
      let fits = leb (candidate s i).width table.room in
      subst (IsPick s (IsWayBelow s table.room (suc table.most) i (i + 1)))
      (sym (ending_pick fits)) (ends s table.room table.most i fits refl stage)

  -- a candidate that may not stand in a plan has no way on
  pub no_stage : (n : ℕ) → (IsStage s i → ⊥) → IsChoice s table i n None
  no_stage n none way ([], is, below, has) =
      none (subst (IsWay s table.room (suc table.most)) is has).0
  no_stage n none way (k ∷ rest, is, below, has) =
      none (subst (IsWay s table.room (suc table.most)) is has).0

  module _ (j : ℕ) (holds : IsTable s table) (within : j < length s.candidates) where
    abbrev Through : List ℕ → Type 0
    Through = IsThrough s table.room table.most i j

    abbrev there : Option Way
    there = get_or table.ways.items j None

    abbrev pick : Option ℕ → Option (ℕ × List ℕ)
    pick None = None
    pick (Some cost) = Some (cost, i ∷ behind table (Some j))

    -- what going on to candidate j was found to cost
    abbrev pub IsThroughCost : Option ℕ → Type 0
    IsThroughCost None = IsChange (candidate s i) (candidate s j) → there ≡ None
    IsThroughCost (Some cost) =
        IsChange (candidate s i) (candidate s j)
        × ((way : Way) × (there ≡ Some way)
        × (cost ≡ leg s (candidate s i) (candidate s j) + way.cost))

    at : (entry : Option Way) → there ≡ entry → IsEntry s table.room table.most j entry
    at entry is = subst (IsEntry s table.room table.most j) is (holds.each j within)

    through_best : IsStage s i → i < j → (cost : ℕ) → IsThroughCost (Some cost)
        → IsBestOf s Through cost (i ∷ stages_of there)
    through_best stage later cost (change, (way, is, costs)) =
        let best = at (Some way) is in
        let rest = best.is.0 in
        let begins = best.is.1 in
        let list : i ∷ stages_of there ≡ i ∷ j ∷ rest =
        ap (λ e. i ∷ stages_of e) is ∙ ap (λ l. i ∷ l) begins in
        let on = subst (IsWay s table.room table.most) begins best.is.2 in
        subst (IsBestOf s Through cost) (sym list) (record {
          is = (rest, refl, (stage, (later, change), on));
          costs = costs
              ∙ ap (λ n. leg s (candidate s i) (candidate s j) + n)
              (best.costs ∙ ap (cost_of s) begins);
          no_worse = λ other has.
              subst (λ l. IsNoWorse s (i ∷ j ∷ rest) l) (sym has.1)
              (in_front s i j rest has.0
              (subst (λ l. IsNoWorse s l (j ∷ has.0)) begins
              (best.no_worse (j ∷ has.0) (has.0, refl, has.2.2))));
        })

    through : IsStage s i → i < j → (cost : Option ℕ) → IsThroughCost cost
        → IsPick s Through (pick cost)
    through stage later None none = λ way has.
        at None (none has.2.1.1) (j ∷ has.0) (has.0, refl, has.2.2)
    through stage later (Some cost) some = through_best stage later cost some

    picks_if : (test : Bool) (a b : Choice)
        → pick_by table i (if test then Some a else Some b)
        ≡ (if test then pick_by table i (Some a) else pick_by table i (Some b))
    picks_if true a b = refl
    picks_if false a b = refl

    picks : (best : Option Choice) (cost : Option ℕ)
        → pick_by table i (cheaper_of best cost j) ≡ cheaper_pick (pick_by table i best) (pick cost)
    picks None None = refl
    picks (Some old) None = refl
    picks None (Some cost) = refl
    picks (Some old) (Some cost) =
        picks_if (ltb cost old.cost) (record { cost = cost; next = Some j }) old

    -- one candidate more to go on to
    pub goes_on : IsStage s i → i < j → (best : Option Choice) (cost : Option ℕ)
        → IsThroughCost cost → IsChoice s table i j best
        → IsChoice s table i (j + 1) (cheaper_of best cost j)
    goes_on stage later best cost costs so_far =
        let room = table.room in
        let m = table.most in
        subst (IsPick s (IsWayBelow s room (suc m) i (j + 1))) (sym (picks best cost))
        (merged s (IsWayBelow s room (suc m) i j) Through (IsWayBelow s room (suc m) i (j + 1))
        (below_more s room m i j) (through_below s room m i j) (split s room m i j)
        (order s room m i j) (pick_by table i best) (pick cost) so_far
        (through stage later cost costs))

  -- the two clauses on what going on to candidate j costs
  pub through_cost : (j : ℕ) (holds : IsTable s table) (within : j < length s.candidates)
      (cost : Option ℕ)
      → IfSome cost (λ n. IsThroughCost j holds within (Some n))
      → IfNone cost (IsThroughCost j holds within None)
      → IsThroughCost j holds within cost
  through_cost j holds within None some none = none
  through_cost j holds within (Some n) some none = some

  begins : (k : ℕ) (rest : List ℕ) (m : ℕ) → IsWay s table.room m (k ∷ rest)
      → k < length s.candidates
  begins k rest zero w = absurd w
  begins k [] (suc m) w = w.0.there
  begins k (j ∷ rest) (suc m) w = w.0.there

  all_below : (way : List ℕ) → IsWayFrom s table.room (suc table.most) i way
      → IsWayBelow s table.room (suc table.most) i (length s.candidates) way
  all_below way ([], is, has) = ([], is, tt, has)
  all_below way (k ∷ rest, is, has) =
      let w = subst (IsWay s table.room (suc table.most)) is has in
      (k ∷ rest, is, begins k rest table.most w.2, has)

  -- all candidates were tried
  pub tried_all : (choice : Option Choice) (entry : Option Way)
      → pick_of entry ≡ pick_by table i choice → IsChoice s table i (length s.candidates) choice
      → IsEntry s table.room (table.most + 1) i entry
  tried_all choice entry is best =
      let one : suc table.most ≡ table.most + 1 = omega arith in
      subst (λ n. IsEntry s table.room n i entry) one
      (subst (IsPick s (IsWayFrom s table.room (suc table.most) i)) (sym is)
      (same_lists s (IsWayBelow s table.room (suc table.most) i (length s.candidates))
      (IsWayFrom s table.room (suc table.most) i) (pick_by table i choice)
      (λ way has. (has.0, has.1, has.3)) all_below best))

  pub tried_some : (choice : Choice) (list : List ℕ) → list ≡ i ∷ behind table choice.next
      → IsChoice s table i (length s.candidates) (Some choice)
      → IsBestOf s (IsWayFrom s table.room (table.most + 1) i) choice.cost list
  tried_some choice list is best =
      let one : suc table.most ≡ table.most + 1 = omega arith in
      subst (λ n. IsBestOf s (IsWayFrom s table.room n i) choice.cost list) one
      (subst (IsBestOf s (IsWayFrom s table.room (suc table.most) i) choice.cost) (sym is)
      (same_lists s (IsWayBelow s table.room (suc table.most) i (length s.candidates))
      (IsWayFrom s table.room (suc table.most) i) (Some (choice.cost, i ∷ behind table choice.next))
      (λ way has. (has.0, has.1, has.3)) all_below best))

-- a plan is a way on, and a way on of at most four candidates may be a plan
module _ (s : Setting) (room : ℕ) where
  to_way : (m : ℕ) (plan : List ℕ) → 1 ≤ length plan → length plan ≤ m → All (IsStage s) plan
      → AreLinked s plan → (candidate s (last_of plan)).width ≤ room → IsWay s room m plan
  to_way m [] some few stages linked last = absurd (omega (arith, some))
  to_way zero (i ∷ rest) some few stages linked last = absurd (omega (arith, few))
  to_way (suc m) (i ∷ []) some few stages linked last = (All-head (IsStage s) i [] stages, last)
  to_way (suc m) (i ∷ j ∷ rest) some few stages linked last = (
    All-head (IsStage s) i (j ∷ rest) stages,
    linked.0,
    to_way m (j ∷ rest) (omega arith) (omega (arith, few))
        (All-tail (IsStage s) i (j ∷ rest) stages) linked.1 last,
  )

  pub record IsOn (m : ℕ) (plan : List ℕ) : Type 0 where
    pub some : 1 ≤ length plan
    pub few : length plan ≤ m
    pub stages : All (IsStage s) plan
    pub linked : AreLinked s plan
    pub last : (candidate s (last_of plan)).width ≤ room

  from_way : (m : ℕ) (plan : List ℕ) → IsWay s room m plan → IsOn m plan
  from_way zero plan has = absurd has
  from_way (suc m) [] has = absurd has
  from_way (suc m) (i ∷ []) has = record {
    some = omega arith;
    few = omega arith;
    stages = All-cons (IsStage s) i [] has.0 (All-nil (IsStage s));
    linked = tt;
    last = has.1;
  }
  from_way (suc m) (i ∷ j ∷ rest) has =
      let on = from_way m (j ∷ rest) has.2 in
      record {
        some = omega arith;
        few = omega (arith, on.few);
        stages = All-cons (IsStage s) i (j ∷ rest) has.0 on.stages;
        linked = (has.1, on.linked);
        last = on.last;
      }

pub limits : (s : Setting) → IsSetting s → (i : ℕ) → i < length s.candidates
    → IsCandidate (length s.points) (candidate s i)
limits s setting i within =
    All-get_or (IsCandidate (length s.points)) s.candidates i nobody within setting.candidates

module _ (s : Setting) (setting : IsSetting s) (i : ℕ) where
  last_there : (plan : List ℕ) → 1 ≤ length plan → All (IsStage s) plan → IsStage s (last_of plan)
  last_there [] some stages = absurd (omega (arith, some))
  last_there (k ∷ []) some stages = All-head (IsStage s) k [] stages
  last_there (k ∷ j ∷ rest) some stages =
      last_there (j ∷ rest) (omega arith) (All-tail (IsStage s) k (j ∷ rest) stages)

  abbrev room : ℕ
  room = s.servers - (candidate s i).parities

  plan_way : (plan : List ℕ) → IsPlanFrom s i plan → IsWayFrom s room 4 i plan
  plan_way plan (rest, is, has) =
      let p = subst (IsPlan s) is has in (
        rest,
        is,
        subst (IsWay s room 4) (sym is) (to_way s room 4 (i ∷ rest) p.some p.few p.stages p.linked
            (omega (arith, p.servers))),
      )

  way_plan : (candidate s i).from ≡ 0 → (plan : List ℕ) → IsWayFrom s room 4 i plan
      → IsPlanFrom s i plan
  way_plan begins plan (rest, is, has) =
      let on = from_way s room 4 (i ∷ rest) (subst (IsWay s room 4) is has) in
      let last = last_there (i ∷ rest) on.some on.stages in
      let wide = (limits s setting (last_of (i ∷ rest)) last.there).width in (
        rest,
        is,
        subst (IsPlan s) (sym is) (record {
          some = on.some;
          few = on.few;
          stages = on.stages;
          linked = on.linked;
          begins = begins;
          servers = omega (arith, on.last, wide);
        }),
      )

  -- the best way on from a first candidate is the best plan
  pub plans_of : (entry : Option Way) → (candidate s i).from ≡ 0 → IsEntry s room 4 i entry
      → IsPick s (IsPlanFrom s i) (pick_of entry)
  plans_of entry begins best =
      same_lists s (IsWayFrom s room 4 i) (IsPlanFrom s i) (pick_of entry) (way_plan begins)
      plan_way best

  -- a later one is no first candidate
  pub no_plan : 0 < (candidate s i).from → IsPick s (IsPlanFrom s i) None
  no_plan later plan (rest, is, has) =
      absurd (omega (arith, later, (subst (IsPlan s) is has).begins))

  -- it is taken out of the table of ways of at most four candidates
  pub plan_at : i < length s.candidates → (candidate s i).from ≡ 0 → (table : Table)
      → IsTable s table → table.most ≡ 4 → table.room ≡ room → (entry : Option Way)
      → entry ≡ get_or table.ways.items i entry → IsPick s (IsPlanFrom s i) (pick_of entry)
  plan_at within begins table holds most wide entry is =
      let there = is
      ∙ get_or_default table.ways.items i entry None (omega (arith, within, holds.size)) in
      let best = subst (IsEntry s table.room table.most i) (sym there) (holds.each i within) in
      plans_of entry begins (subst (λ r. IsEntry s r 4 i entry) wide
      (subst (λ m. IsEntry s table.room m i entry) most best))
