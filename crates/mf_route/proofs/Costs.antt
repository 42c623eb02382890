-- How great costs are.
use Rattle.std.proofs.Common.{◌≡◌, ℕ, zero, suc, ◌+◌, ◌-◌, ◌*◌, ◌/◌, ◌%◌, ◌<◌, ◌≤◌, min, List, []}
use Rattle.std.proofs.Common.{◌∷◌}
use Rattle.std.proofs.Common.{length}
use Rattle.std.proofs.Common.{Bool, true, false, if◌then◌else◌, Some, None, get_or, subst, arith}
use Rattle.std.proofs.Common.{ltb}
use Rattle.std.proofs.lemmas.Nat.{mul-le}
use Rattle.std.proofs.Math.Nat.{div-le_self}
use Rattle.std.specs.Int.{div_ceil}
use Rattle.mf_route.specs.Plans.{Setting, IsCandidate, IsStage, candidate, cost_of, kept, leg}
use Rattle.mf_route.specs.Plans.{moved}
use Rattle.mf_route.specs.Plans.{stay}
use Rattle.mf_route.specs.Tables.{IsEntry, IsSetting, IsTable, IsWay}
use Rattle.mf_route.specs.declared.table.Table.{Table}
use Rattle.mf_route.specs.declared.table.Way.{Way}
use Rattle.mf_route.specs.declared.Candidate.{Candidate}
use Rattle.mf_route.proofs.Ways.{limits}

pub few_stripes : (chunks width : ℕ) → chunks ≤ 1024 → div_ceil chunks width ≤ 1025
few_stripes chunks width few =
    let whole : chunks / width ≤ chunks = div-le_self chunks width in
    omega (arith, whole, few)

pub kept_small : (chunks : ℕ) (a : Candidate) → chunks ≤ 1024 → a.parities ≤ 4
    → kept chunks a ≤ 10000
kept_small chunks a few parities =
    let stripes = few_stripes chunks a.width few in
    let all : a.parities * div_ceil chunks a.width ≤ 4 * 1025 =
    mul-le a.parities (div_ceil chunks a.width) 4 1025 parities stripes in
    omega (arith, all, few)

moved_if : (test : Bool) (n : ℕ) → n ≤ 10000 → (if test then n else 0) ≤ 10000
moved_if true n le = le
moved_if false n le = omega arith

pub moved_small : (chunks : ℕ) (a b : Candidate) → chunks ≤ 1024 → b.parities ≤ 4
    → moved chunks a b ≤ 10000
moved_small chunks a b few parities =
    let x = few_stripes chunks a.width few in
    let y = few_stripes chunks b.width few in
    let n = div_ceil chunks a.width + div_ceil chunks b.width in
    let both : n ≤ 2050 = omega (arith, x, y) in
    let all : b.parities * n ≤ 4 * 2050 = mul-le b.parities n 4 2050 parities both in
    moved_if (ltb a.width b.width) (b.parities * n) (omega (arith, all))

module _ (s : Setting) (setting : IsSetting s) where
  pub leg_small : (a b : Candidate) → IsCandidate (length s.points) a
      → IsCandidate (length s.points) b → leg s a b ≤ 20000000000000
  leg_small a b x y =
      let few = setting.few_points in
      let k = kept_small s.chunks a setting.chunks (omega (arith, x.few, few)) in
      let m = moved_small s.chunks a b setting.chunks (omega (arith, y.few, few)) in
      let time = mul-le (kept s.chunks a) (b.from - a.from) 10000 1000000000 k
      (omega (arith, y.ticks)) in
      let change = mul-le s.cost (moved s.chunks a b) 1000000 10000 setting.cost m in
      omega (arith, time, change)

  pub stay_small : (a : Candidate) → IsCandidate (length s.points) a → stay s a ≤ 10000000000000
  stay_small a x =
      let k = kept_small s.chunks a setting.chunks (omega (arith, x.few, setting.few_points)) in
      let time = mul-le (kept s.chunks a) (s.horizon - a.from) 10000 1000000000 k
      (omega (arith, setting.horizon)) in
      omega (arith, time)

  begins : (room m j : ℕ) (rest : List ℕ) → IsWay s room m (j ∷ rest) → j < length s.candidates
  begins room zero j rest w = absurd w
  begins room (suc m) j [] w = w.0.there
  begins room (suc m) j (k ∷ rest) w = w.0.there

  -- a way of at most m candidates
  pub way_small : (room m : ℕ) (way : List ℕ) → IsWay s room m way
      → cost_of s way ≤ m * 20000000000000
  way_small room zero way has = absurd has
  way_small room (suc m) [] has = absurd has
  way_small room (suc m) (i ∷ []) has =
      let small = stay_small (candidate s i) (limits s setting i has.0.there) in
      omega (arith, small)
  way_small room (suc m) (i ∷ j ∷ rest) has =
      let a = limits s setting i has.0.there in
      let b = limits s setting j (begins room m j rest has.2) in
      let one = leg_small (candidate s i) (candidate s j) a b in
      let more = way_small room m (j ∷ rest) has.2 in
      omega (arith, one, more)

  -- what stands in a table
  pub entry_small : (table : Table) (i : ℕ) → IsTable s table → i < length s.candidates
      → table.most ≤ 4 → (way : Way) → get_or table.ways.items i None ≡ Some way
      → way.cost ≤ 80000000000000
  entry_small table i holds within few way is =
      let best = subst (IsEntry s table.room table.most i) is (holds.each i within) in
      let small = way_small table.room table.most way.stages.items best.is.2 in
      let most : table.most * 20000000000000 ≤ 4 * 20000000000000 =
      mul-le table.most 20000000000000 4 20000000000000 few (omega arith) in
      omega (arith, best.costs, small, most)
