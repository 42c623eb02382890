-- The texts of reclaims.
use Rattle.std.specs.Prelude.{ℕ, List, [], ◌∷◌, ◌++◌, codes, decimal}
use Rattle.std.specs.List.{flat_map}
use Rattle.mf_reclaim.specs.declared.outcome.ReclaimOutcome.{ReclaimOutcome}
use Rattle.mf_reclaim.specs.declared.outcome.ReclaimOutcome.TheVariants as reclaim

-- A generation and the number of its pins, as `0:1`.
abbrev pub pin_text : ℕ × ℕ → List ℕ
pin_text pin = decimal pin.0 ++ codes ":" ++ decimal pin.1

-- Such generations with commas between them, or `-` where there is none.
abbrev pub pins_text : List (ℕ × ℕ) → List ℕ
pins_text [] = codes "-"
pins_text (pin ∷ pins) = pin_text pin ++ flat_map (λ other. codes "," ++ pin_text other) pins

-- What came of a reclaim.
abbrev pub reclaim_text : ReclaimOutcome → List ℕ
reclaim_text (reclaim.Reclaimed closed dropped pinned) =
    codes "reclaimed closed " ++ decimal closed ++ codes " dropped " ++ decimal dropped ++ codes " pinned "
    ++ pins_text pinned
reclaim_text reclaim.Absent = codes "absent"
reclaim_text reclaim.Memory = codes "memory"
