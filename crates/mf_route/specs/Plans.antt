-- Plans of a file's life, what they cost, and which of them is the answer.
use Rattle.std.specs.Prelude.{◌≡◌, ◌≢◌, ◌⊎◌, ℕ, ◌+◌, ◌-◌, ◌*◌, ◌%◌, ◌<◌, ◌≤◌, nat_lt, if◌then◌else◌}
use Rattle.std.specs.Prelude.{List, [], ◌∷◌, length, get_or, take}
use Rattle.std.specs.List.{All}
use Rattle.std.specs.Int.{div_ceil}
use Rattle.mf_code.specs.Decodable.{IsDecodable}
use Rattle.mf_route.specs.declared.Candidate.{Candidate}
use Rattle.mf_route.specs.declared.RouteOutcome.{RouteOutcome}
use Rattle.mf_route.specs.declared.RouteOutcome.TheVariants.{Plan, NoPlan, Memory}

-- a question: the servers, the points, the chunks of the file, the cost of a chunk that is read or
-- written, the last tick, and the candidates
pub record Setting : Type 0 where
  pub servers : ℕ
  pub points : List ℕ
  pub chunks : ℕ
  pub cost : ℕ
  pub horizon : ℕ
  pub candidates : List Candidate

-- what stands at a number that no candidate has
abbrev pub nobody : Candidate
nobody = record { width = 0; parities = 0; from = 0 }

-- candidate i
abbrev pub candidate : Setting → ℕ → Candidate
candidate s i = get_or s.candidates i nobody

-- candidate i may stand in a plan
pub record IsStage (s : Setting) (i : ℕ) : Type 0 where
  pub there : i < length s.candidates
  pub in_time : (candidate s i).from ≤ s.horizon
  pub decodable : IsDecodable (take (candidate s i).parities s.points) (candidate s i).width

-- a file may be changed from the one candidate to the other
pub record IsChange (a b : Candidate) : Type 0 where
  pub ticks : a.from < b.from
  pub multiple : b.width % a.width ≡ 0
  pub parities : b.parities ≤ a.parities
  pub fits : a.width < b.width → b.parities ≤ a.width

-- candidate j may come behind candidate i
abbrev pub MayFollow : Setting → ℕ → ℕ → Type 0
MayFollow s i j = (i < j) × IsChange (candidate s i) (candidate s j)

-- each may come behind the one before it
abbrev pub AreLinked : Setting → List ℕ → Type 0
AreLinked s [] = Unit {0}
AreLinked s (i ∷ []) = Unit {0}
AreLinked s (i ∷ j ∷ rest) = MayFollow s i j × AreLinked s (j ∷ rest)

abbrev pub first_of : List ℕ → ℕ
first_of plan = get_or plan 0 0

abbrev pub last_of : List ℕ → ℕ
last_of [] = 0
last_of (i ∷ []) = i
last_of (i ∷ j ∷ rest) = last_of (j ∷ rest)

-- A plan: one to four candidates by their numbers, of which the first is there from tick 0 on. The
-- widest stripe and the first one's parities have a server each.
pub record IsPlan (s : Setting) (plan : List ℕ) : Type 0 where
  pub some : 1 ≤ length plan
  pub few : length plan ≤ 4
  pub stages : All (IsStage s) plan
  pub linked : AreLinked s plan
  pub begins : (candidate s (first_of plan)).from ≡ 0
  pub servers : (candidate s (last_of plan)).width + (candidate s (first_of plan)).parities
      ≤ s.servers

-- the chunks that are kept
abbrev pub kept : ℕ → Candidate → ℕ
kept chunks a = chunks + a.parities * div_ceil chunks a.width

-- the chunks that a change reads and writes: none where the width stays
abbrev pub moved : ℕ → Candidate → Candidate → ℕ
moved chunks a b = if nat_lt a.width b.width
    then b.parities * (div_ceil chunks a.width + div_ceil chunks b.width) else 0

-- what is paid from the one candidate's tick to the other's, and for the change
abbrev pub leg : Setting → Candidate → Candidate → ℕ
leg s a b = kept s.chunks a * (b.from - a.from) + s.cost * moved s.chunks a b

-- what is paid from a candidate's tick to the last one
abbrev pub stay : Setting → Candidate → ℕ
stay s a = kept s.chunks a * (s.horizon - a.from)

-- the cost of a plan
abbrev pub cost_of : Setting → List ℕ → ℕ
cost_of s [] = 0
cost_of s (i ∷ []) = stay s (candidate s i)
cost_of s (i ∷ j ∷ rest) = leg s (candidate s i) (candidate s j) + cost_of s (j ∷ rest)

-- the one list comes before the other, as words do
abbrev pub IsBefore : List ℕ → List ℕ → Type 0
IsBefore [] [] = ⊥
IsBefore [] (y ∷ ys) = Unit {0}
IsBefore (x ∷ xs) [] = ⊥
IsBefore (x ∷ xs) (y ∷ ys) = (x < y) ⊎ ((x ≡ y) × IsBefore xs ys)

-- a plan of this cost; every plan costs at least that, and of those that cost as much it is the
-- first
pub record IsCheapest (s : Setting) (cost : ℕ) (plan : List ℕ) : Type 0 where
  pub is_plan : IsPlan s plan
  pub costs : cost ≡ cost_of s plan
  pub least : (other : List ℕ) → IsPlan s other → cost ≤ cost_of s other
  pub first : (other : List ℕ) → IsPlan s other → cost_of s other ≡ cost → IsBefore other plan → ⊥

-- what is answered; want of memory may be answered to any question
abbrev pub IsAnswer : Setting → RouteOutcome → Type 0
IsAnswer s (Plan cost stages) = IsCheapest s cost stages.items
IsAnswer s NoPlan = (plan : List ℕ) → IsPlan s plan → ⊥
IsAnswer s Memory = Unit {0}

-- a candidate within the limits, where there are so many points
pub record IsCandidate (points : ℕ) (a : Candidate) : Type 0 where
  pub width : 1 ≤ a.width
  pub narrow : a.width ≤ 64
  pub parities : 1 ≤ a.parities
  pub few : a.parities ≤ points
  pub ticks : a.from ≤ 1000000000
