-- The rules that a chain of stages keeps.
use Rattle.std.specs.Prelude.{◌≡◌, ℕ, ◌+◌, ◌*◌, ◌%◌, ◌<◌, ◌≤◌, List, length}
use Rattle.mf_shape.specs.declared.Stage.{Stage}
use Rattle.mf_shape.specs.declared.TheConstants.{MAX_STAGES, MAX_WIDTH, MAX_PARITIES, MAX_COPIES, MAX_SERVERS}
use Rattle.mf_shape.specs.Stages.{stage_at, copies_at, max_width, max_copied_width, columns}

-- what contracts see of a shape: its stages, and the number of its servers
pub record Chain : Type 0 where
  pub stages : List Stage
  pub servers : ℕ

-- the limits of one stage
abbrev pub HasWidth : Stage → Type 0
HasWidth stage = (1 ≤ stage.width) × (stage.width ≤ MAX_WIDTH)

abbrev pub HasParities : Stage → Type 0
HasParities stage = (1 ≤ stage.parities) × (stage.parities ≤ MAX_PARITIES)

abbrev pub HasCopies : Stage → Type 0
HasCopies stage = stage.copies ≤ MAX_COPIES

-- the rules of one step, from a stage to the next: the width is multiplied, neither parities nor
-- copies grow, and where the width grows a narrow stripe has at least as many chunks as the wide one has parities
abbrev pub MultipliesWidth : Stage → Stage → Type 0
MultipliesWidth before after = after.width % before.width ≡ 0

abbrev pub KeepsParities : Stage → Stage → Type 0
KeepsParities before after = after.parities ≤ before.parities

abbrev pub KeepsCopies : Stage → Stage → Type 0
KeepsCopies before after = after.copies ≤ before.copies

abbrev pub FitsParities : Stage → Stage → Type 0
FitsParities before after = before.width < after.width → after.parities ≤ before.width

pub record IsStep (before after : Stage) : Type 0 where
  pub width : MultipliesWidth before after
  pub parities : KeepsParities before after
  pub copies : KeepsCopies before after
  pub fits : FitsParities before after

-- the widest stripe has a column of its own for each copy of each chunk of a copied stripe
abbrev pub FitsCopies : List Stage → Type 0
FitsCopies stages = 0 < copies_at stages 0 → (copies_at stages 0 + 1) * max_copied_width stages ≤ max_width stages

-- there are as many servers as columns, and not too many
abbrev pub FitsServers : List Stage → ℕ → Type 0
FitsServers stages servers = (columns stages ≤ servers) × (servers ≤ MAX_SERVERS)

-- one to four stages, each within its limits, each the step of the one before
pub record IsChain (stages : List Stage) : Type 0 where
  pub some : 1 ≤ length stages
  pub few : length stages ≤ MAX_STAGES
  pub widths : (g : ℕ) → g < length stages → HasWidth (stage_at stages g)
  pub parities : (g : ℕ) → g < length stages → HasParities (stage_at stages g)
  pub copies : (g : ℕ) → g < length stages → HasCopies (stage_at stages g)
  pub steps : (g : ℕ) → g + 1 < length stages → IsStep (stage_at stages g) (stage_at stages (g + 1))

-- what every shape keeps
pub record IsShape (shape : Chain) : Type 0 where
  pub chain : IsChain shape.stages
  pub copies : FitsCopies shape.stages
  pub servers : FitsServers shape.stages shape.servers
