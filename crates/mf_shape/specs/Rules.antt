-- The rules as the code's tests name them, and the least stage that fails one.
use Rattle.std.specs.Prelude.{ℕ, ◌-◌, ◌<◌, List, length}
use Rattle.mf_shape.specs.declared.Stage.{Stage}
use Rattle.mf_shape.specs.declared.rules.Limit.{Limit}
use Rattle.mf_shape.specs.declared.rules.Limit.TheVariants as limit
use Rattle.mf_shape.specs.declared.rules.Step.{Step}
use Rattle.mf_shape.specs.declared.rules.Step.TheVariants as step
use Rattle.mf_shape.specs.Stages.{stage_at}
use Rattle.mf_shape.specs.Chain.{HasWidth, HasParities, HasCopies, MultipliesWidth}
use Rattle.mf_shape.specs.Chain.{KeepsParities, KeepsCopies, FitsParities}

-- the stage keeps this limit
abbrev pub KeepsLimit : Limit → Stage → Type 0
KeepsLimit limit.Width stage = HasWidth stage
KeepsLimit limit.Parities stage = HasParities stage
KeepsLimit limit.Copies stage = HasCopies stage

-- the step keeps this rule
abbrev pub KeepsStep : Step → Stage → Stage → Type 0
KeepsStep step.Multiple before after = MultipliesWidth before after
KeepsStep step.Parities before after = KeepsParities before after
KeepsStep step.Copies before after = KeepsCopies before after
KeepsStep step.Fit before after = FitsParities before after

-- stage g keeps the limit
abbrev pub KeepsLimitAt : List Stage → Limit → ℕ → Type 0
KeepsLimitAt stages limit g = KeepsLimit limit (stage_at stages g)

-- the step to stage g keeps the rule; no step leads to stage 0
abbrev pub KeepsStepAt : List Stage → Step → ℕ → Type 0
KeepsStepAt stages step g = 0 < g → KeepsStep step (stage_at stages (g - 1)) (stage_at stages g)

-- every stage keeps the rule
pub record EachStage (stages : List Stage) (Keeps : ℕ → Type 0) : Type 0 where
  pub keeps : (g : ℕ) → g < length stages → Keeps g

-- stage g is the least that fails the rule
pub record FailsFirst (stages : List Stage) (Keeps : ℕ → Type 0) (g : ℕ) : Type 0 where
  pub below : g < length stages
  pub fails : ¬ Keeps g
  pub before : (h : ℕ) → h < g → Keeps h
