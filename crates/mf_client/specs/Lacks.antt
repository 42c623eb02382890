-- Commands that ran out of memory.
use Rattle.std.specs.Prelude.{Bool, true, false, ◌||◌}
use Rattle.std.specs.List.{list_any}
use Rattle.mf_convert.specs.declared.change.Change.{Change}
use Rattle.mf_convert.specs.declared.change.Change.TheVariants as change
use Rattle.mf_read.specs.declared.outcome.ReadOutcome.{ReadOutcome}
use Rattle.mf_read.specs.declared.outcome.ReadOutcome.TheVariants as read
use Rattle.mf_repair.specs.declared.outcome.RepairOutcome.{RepairOutcome}
use Rattle.mf_repair.specs.declared.outcome.RepairOutcome.TheVariants as repair
use Rattle.mf_reclaim.specs.declared.outcome.ReclaimOutcome.{ReclaimOutcome}
use Rattle.mf_reclaim.specs.declared.outcome.ReclaimOutcome.TheVariants as reclaim
use Rattle.mf_client.specs.declared.done.Outcome.{Outcome}
use Rattle.mf_client.specs.declared.done.Outcome.TheVariants as outcome
use Rattle.mf_client.specs.declared.done.Part.{Part}
use Rattle.mf_client.specs.declared.done.Done.{Done}

-- memory ran out in a change
abbrev pub change_lacks : Change → Bool
change_lacks change.Memory = true
change_lacks any_other = false

-- memory ran out in a read
abbrev pub read_lacks : ReadOutcome → Bool
read_lacks read.Memory = true
read_lacks any_other = false

-- memory ran out in a repair
abbrev pub repair_lacks : RepairOutcome → Bool
repair_lacks repair.Memory = true
repair_lacks any_other = false

-- memory ran out in a reclaim
abbrev pub reclaim_lacks : ReclaimOutcome → Bool
reclaim_lacks reclaim.Memory = true
reclaim_lacks any_other = false

-- memory ran out in a command on one file
abbrev pub outcome_lacks : Outcome → Bool
outcome_lacks (outcome.Change change) = change_lacks change
outcome_lacks (outcome.Refused read) = read_lacks read
outcome_lacks (outcome.Repair repair) = repair_lacks repair
outcome_lacks (outcome.Reclaim reclaim) = reclaim_lacks reclaim
outcome_lacks outcome.Memory = true
outcome_lacks any_other = false

-- memory ran out in a command, or in one of its parts
abbrev pub lacks_memory : Done → Bool
lacks_memory done = outcome_lacks done.outcome || list_any (λ (part : Part). change_lacks part.change) done.parts
