-- The stages of a chain one after the other.
use Rattle.std.proofs.Common.{◌≡◌, ℕ, zero, suc, ◌+◌, ◌<◌, ◌≤◌, inl, inr, Some, Vec, List, length, sym, subst, arith}
use Rattle.std.proofs.Common.{length-take-le}
use Rattle.std.specs.Global.{Global}
use Rattle.std.proofs.lemmas.Bool.{cases_lt}
use Rattle.mf_shape.specs.declared.Stage.{Stage}
use Rattle.mf_shape.specs.Stages.{width_at, parities_at}
use Rattle.mf_shape.specs.Chain.{IsChain}
use Rattle.mf_code.specs.Decodable.{IsPlaceSet}
use Rattle.mf_check.specs.Search.{StageAnswer}
use Rattle.mf_check.specs.Families.{stage_points, IsStageDecodable, ArePoints}
use Rattle.mf_check.specs.Faults.{IsUndecodable}

-- no stage has more parities than the first one
pub parities_le : (stages : List Stage) → IsChain stages → (g : ℕ) → g < length stages
    → parities_at stages g ≤ parities_at stages 0
parities_le stages chain zero lt = omega arith
parities_le stages chain (suc g) lt =
    let before : parities_at stages g ≤ parities_at stages 0 = parities_le stages chain g (omega arith) in
    let next : g + 1 ≡ suc g = omega arith in
    let step : parities_at stages (suc g) ≤ parities_at stages g =
    subst (λ m. parities_at stages m ≤ parities_at stages g) next (chain.steps g (omega arith)).parities in
    omega arith

module _ (stages : List Stage) (points : List ℕ) (chain : IsChain stages)
    (are : ArePoints (parities_at stages 0) points) (g : ℕ) (lt : g < length stages) where
  length-stage_points : length (stage_points stages points g) ≡ parities_at stages g
  length-stage_points = (
      let few : parities_at stages g ≤ parities_at stages 0 = parities_le stages chain g lt in
      let len = are.len in
      length-take-le (parities_at stages g) points (omega arith))

  -- what the search of a stage found is the fault
  pub IsUndecodable-found : (found : Vec ℕ Global × List ℕ) → ((h : ℕ) → h < g → IsStageDecodable stages points h)
      → StageAnswer (stage_points stages points g) (width_at stages g) (Some found)
      → IsUndecodable stages points g found.0.items found.1
  IsUndecodable-found found before answer =
      let n = width_at stages g in
      record {
        stage = lt;
        before = before;
        set = subst (λ r. IsPlaceSet (n + r) r found.0.items) length-stage_points answer.0;
        undecodable = answer.1;
        first = λ s set b. answer.2 s (subst (λ r. IsPlaceSet (n + r) r s) (sym length-stage_points) set) b;
        kernel_list = answer.3;
      }

-- one stage more
pub one_stage_more : (stages : List Stage) (points : List ℕ) (g : ℕ)
    → ((h : ℕ) → h < g → IsStageDecodable stages points h) → IsStageDecodable stages points g
    → (h : ℕ) → h < g + 1 → IsStageDecodable stages points h
one_stage_more stages points g before here h lt = elim (cases_lt h g) [
  | inl low ↦ before h low
  | inr le ↦ subst (IsStageDecodable stages points) (let e : g ≡ h = omega arith in e) here
]
