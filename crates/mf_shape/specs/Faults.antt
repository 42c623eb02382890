-- The faults of a chain: where each comes, and which is the first.
use Rattle.std.specs.Prelude.{◌≡◌, ℕ, ◌-◌, ◌<◌, ◌⊎◌, List, length}
use Rattle.mf_shape.specs.declared.Stage.{Stage}
use Rattle.mf_shape.specs.declared.ShapeFault.{ShapeFault}
use Rattle.mf_shape.specs.declared.ShapeFault.TheVariants as fault
use Rattle.mf_shape.specs.declared.TheConstants.{MAX_STAGES}
use Rattle.mf_shape.specs.Stages.{stage_at, columns}
use Rattle.mf_shape.specs.Chain.{HasWidth, HasParities, HasCopies, MultipliesWidth, KeepsParities, KeepsCopies}
use Rattle.mf_shape.specs.Chain.{FitsParities, FitsCopies, FitsServers}

-- stage g breaks a limit
abbrev pub Breaks : List Stage → (Stage → Type 0) → ℕ → Type 0
Breaks stages Limit g = (g < length stages) × ¬ Limit (stage_at stages g)

-- the step from stage g − 1 to stage g breaks a rule
abbrev pub BreaksStep : List Stage → (Stage → Stage → Type 0) → ℕ → Type 0
BreaksStep stages Rule g = (g < length stages) × (0 < g) × ¬ Rule (stage_at stages (g - 1)) (stage_at stages g)

-- where a fault comes. Want of memory may come at any chain
abbrev pub Comes : List Stage → ℕ → ShapeFault → Type 0
Comes stages servers fault.NoStage = length stages < 1
Comes stages servers fault.TooManyStages = MAX_STAGES < length stages
Comes stages servers (fault.Width g) = Breaks stages HasWidth g
Comes stages servers (fault.Parities g) = Breaks stages HasParities g
Comes stages servers (fault.Copies g) = Breaks stages HasCopies g
Comes stages servers (fault.NotMultiple g) = BreaksStep stages MultipliesWidth g
Comes stages servers (fault.ParitiesGrow g) = BreaksStep stages KeepsParities g
Comes stages servers (fault.CopiesGrow g) = BreaksStep stages KeepsCopies g
Comes stages servers (fault.ParitiesOverWidth g) = BreaksStep stages FitsParities g
Comes stages servers fault.CopiesDontFit = ¬ FitsCopies stages
Comes stages servers (fault.Servers n) = (n ≡ columns stages) × ¬ FitsServers stages servers
Comes stages servers fault.Memory = Unit {0}

-- the rank of a fault's kind: the kinds are tried by rank, the least first
abbrev pub rank_of : ShapeFault → ℕ
rank_of fault.NoStage = 0
rank_of fault.TooManyStages = 1
rank_of (fault.Width g) = 2
rank_of (fault.Parities g) = 3
rank_of (fault.Copies g) = 4
rank_of (fault.NotMultiple g) = 5
rank_of (fault.ParitiesGrow g) = 6
rank_of (fault.CopiesGrow g) = 7
rank_of (fault.ParitiesOverWidth g) = 8
rank_of fault.CopiesDontFit = 9
rank_of (fault.Servers n) = 10
rank_of fault.Memory = 11

-- the number that a fault says: a stage's, or how many servers are needed
abbrev pub said_by : ShapeFault → ℕ
said_by fault.NoStage = 0
said_by fault.TooManyStages = 0
said_by (fault.Width g) = g
said_by (fault.Parities g) = g
said_by (fault.Copies g) = g
said_by (fault.NotMultiple g) = g
said_by (fault.ParitiesGrow g) = g
said_by (fault.CopiesGrow g) = g
said_by (fault.ParitiesOverWidth g) = g
said_by fault.CopiesDontFit = 0
said_by (fault.Servers n) = n
said_by fault.Memory = 0

-- a fault is tried before another: its kind is, or it is of the same kind and says a lesser number
abbrev pub IsBefore : ShapeFault → ShapeFault → Type 0
IsBefore one other = (rank_of one < rank_of other) ⊎ ((rank_of one ≡ rank_of other) × (said_by one < said_by other))

-- a fault comes, and none that is tried before it does
pub record IsFirst (stages : List Stage) (servers : ℕ) (first : ShapeFault) : Type 0 where
  pub comes : Comes stages servers first
  pub none_before : (other : ShapeFault) → IsBefore other first → ¬ Comes stages servers other
