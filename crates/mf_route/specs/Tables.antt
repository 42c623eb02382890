-- What the tables hold: for each candidate the best way on from it.
use Rattle.std.specs.Prelude.{◌≡◌, ◌⊎◌, ℕ, zero, suc, ◌<◌, ◌≤◌, ◌↔◌, nat_le, nat_lt, if◌then◌else◌}
use Rattle.std.specs.Prelude.{Bool, false, IsTrue, List, [], ◌∷◌, Option, Some, None, length}
use Rattle.std.specs.Prelude.{get_or}
use Rattle.std.specs.List.{All}
use Rattle.mf_check.specs.Families.{ArePoints}
use Rattle.mf_route.specs.Plans.{Setting, IsCandidate, IsPlan, IsStage, MayFollow, candidate}
use Rattle.mf_route.specs.Plans.{IsBefore, cost_of, stay}
use Rattle.mf_route.specs.declared.table.Choice.{Choice}
use Rattle.mf_route.specs.declared.table.Table.{Table}
use Rattle.mf_route.specs.declared.table.Way.{Way}

-- a question within the limits
pub record IsSetting (s : Setting) : Type 0 where
  pub servers : s.servers ≤ 128
  pub points : ArePoints (length s.points) s.points
  pub few_points : length s.points ≤ 4
  pub chunks : s.chunks ≤ 1024
  pub cost : s.cost ≤ 1000000
  pub horizon : s.horizon ≤ 1000000000
  pub few : length s.candidates ≤ 64
  pub candidates : All (IsCandidate (length s.points)) s.candidates

-- for each candidate whether it may stand in a plan
pub record AreUsable (s : Setting) (usable : List Bool) : Type 0 where
  pub setting : IsSetting s
  pub size : length usable ≡ length s.candidates
  pub each : (i : ℕ) → i < length s.candidates → IsTrue (get_or usable i false) ↔ IsStage s i

-- a way on: the rest of a plan, of at most m candidates, whose last one is at most so wide
abbrev pub IsWay : Setting → ℕ → ℕ → List ℕ → Type 0
IsWay s room zero way = ⊥
IsWay s room (suc m) [] = ⊥
IsWay s room (suc m) (i ∷ []) = IsStage s i × ((candidate s i).width ≤ room)
IsWay s room (suc m) (i ∷ j ∷ rest) = IsStage s i × MayFollow s i j × IsWay s room m (j ∷ rest)

-- it costs less, or as much and isn't behind
abbrev pub IsNoWorse : Setting → List ℕ → List ℕ → Type 0
IsNoWorse s one other =
    (cost_of s one < cost_of s other)
    ⊎ ((cost_of s one ≡ cost_of s other) × ((one ≡ other) ⊎ IsBefore one other))

-- the first number is below this one, where there is one
abbrev pub BeginsBelow : ℕ → List ℕ → Type 0
BeginsBelow n [] = Unit {0}
BeginsBelow n (i ∷ rest) = i < n

-- the best of the lists that have P
pub record IsBestOf (s : Setting) (P : List ℕ → Type 0) (cost : ℕ) (best : List ℕ) : Type 0 where
  pub is : P best
  pub costs : cost ≡ cost_of s best
  pub no_worse : (other : List ℕ) → P other → IsNoWorse s best other

-- the best of these lists with its cost, or none where there is none
abbrev pub IsPick : Setting → (List ℕ → Type 0) → Option (ℕ × List ℕ) → Type 0
IsPick s P None = (list : List ℕ) → P list → ⊥
IsPick s P (Some best) = IsBestOf s P best.0 best.1

-- the cheaper of two, and of two as cheap the former
abbrev pub cheaper_pick : Option (ℕ × List ℕ) → Option (ℕ × List ℕ) → Option (ℕ × List ℕ)
cheaper_pick old None = old
cheaper_pick None (Some new) = Some new
cheaper_pick (Some old) (Some new) = if nat_lt new.0 old.0 then Some new else Some old

abbrev pub pick_of : Option Way → Option (ℕ × List ℕ)
pick_of None = None
pick_of (Some way) = Some (way.cost, way.stages.items)

-- the ways on that begin with candidate i
abbrev pub IsWayFrom : Setting → ℕ → ℕ → ℕ → List ℕ → Type 0
IsWayFrom s room m i way = (rest : List ℕ) × (way ≡ i ∷ rest) × IsWay s room m way

-- the best way on from candidate i, or none where there is none
abbrev pub IsEntry : Setting → ℕ → ℕ → ℕ → Option Way → Type 0
IsEntry s room m i entry = IsPick s (IsWayFrom s room m i) (pick_of entry)

-- the best ways on from each candidate
pub record IsTable (s : Setting) (table : Table) : Type 0 where
  pub size : length table.ways.items ≡ length s.candidates
  pub each : (i : ℕ) → i < length s.candidates
      → IsEntry s table.room table.most i (get_or table.ways.items i None)

-- the candidates of an entry
abbrev pub stages_of : Option Way → List ℕ
stages_of None = []
stages_of (Some way) = way.stages.items

-- the candidates behind a choice
abbrev pub behind : Table → Option ℕ → List ℕ
behind table None = []
behind table (Some j) = stages_of (get_or table.ways.items j None)

-- the ways on from candidate i that end there, or go on to a candidate below n
abbrev pub IsWayBelow : Setting → ℕ → ℕ → ℕ → ℕ → List ℕ → Type 0
IsWayBelow s room m i n way =
    (rest : List ℕ) × (way ≡ i ∷ rest) × BeginsBelow n rest × IsWay s room m way

-- what a choice at candidate i stands for
abbrev pub pick_by : Table → ℕ → Option Choice → Option (ℕ × List ℕ)
pick_by table i None = None
pick_by table i (Some choice) = Some (choice.cost, i ∷ behind table choice.next)

-- the best of these is chosen at candidate i, or none where there is none
abbrev pub IsChoice : Setting → Table → ℕ → ℕ → Option Choice → Type 0
IsChoice s table i n choice =
    IsPick s (IsWayBelow s table.room (suc table.most) i n) (pick_by table i choice)

-- the choice to end at candidate i
abbrev pub ending_of : Setting → ℕ → ℕ → Option Choice
ending_of s room i =
    if nat_le (candidate s i).width room
    then Some (record { cost = stay s (candidate s i); next = None })
    else None

-- the cheaper of a choice and going on to candidate j at this cost
abbrev pub cheaper_of : Option Choice → Option ℕ → ℕ → Option Choice
cheaper_of best None j = best
cheaper_of None (Some cost) j = Some (record { cost = cost; next = Some j })
cheaper_of (Some old) (Some cost) j =
    if nat_lt cost old.cost then Some (record { cost = cost; next = Some j }) else Some old

-- the cheaper of two ways
abbrev pub better_of : Option Way → Option Way → Option Way
better_of best None = best
better_of None (Some new) = Some new
better_of (Some old) (Some new) = if nat_lt new.cost old.cost then Some new else Some old

-- the plans that begin with candidate i
abbrev pub IsPlanFrom : Setting → ℕ → List ℕ → Type 0
IsPlanFrom s i plan = (rest : List ℕ) × (plan ≡ i ∷ rest) × IsPlan s plan

-- the plans that begin with a candidate below n
abbrev pub IsPlanBelow : Setting → ℕ → List ℕ → Type 0
IsPlanBelow s n plan = BeginsBelow n plan × IsPlan s plan
