-- The texts of repairs.
use Rattle.std.specs.Prelude.{ℕ, List, ◌++◌, codes, decimal}
use Rattle.mf_places.specs.Texts.{away_text}
use Rattle.mf_read.specs.Texts.{stripe_text, lost_names_text}
use Rattle.mf_repair.specs.declared.outcome.RepairOutcome.{RepairOutcome}
use Rattle.mf_repair.specs.declared.outcome.RepairOutcome.TheVariants as repair

-- What came of a repair.
abbrev pub repair_text : RepairOutcome → List ℕ
repair_text (repair.Repaired restored skipped) =
    codes "repaired " ++ decimal restored ++ codes " skipped " ++ decimal skipped
repair_text repair.Absent = codes "absent"
repair_text repair.Removed = codes "removed"
repair_text repair.Busy = codes "busy"
repair_text (repair.DataLost g stripe lost) =
    codes "datalost" ++ stripe_text g stripe ++ codes " lost" ++ lost_names_text lost
repair_text (repair.Unreachable g stripe name server) =
    codes "unreachable" ++ stripe_text g stripe ++ codes " " ++ away_text name server
repair_text repair.Memory = codes "memory"
