-- The texts of changes.
use Rattle.std.specs.Prelude.{ℕ, List, ◌++◌, codes, decimal}
use Rattle.mf_places.specs.Texts.{lost_text, away_text}
use Rattle.mf_convert.specs.declared.change.Change.{Change}
use Rattle.mf_convert.specs.declared.change.Change.TheVariants as change

-- From one generation to the next, and how many parities were made.
abbrev pub step_text : (from to made : ℕ) → List ℕ
step_text from to made = codes " " ++ decimal from ++ codes " to " ++ decimal to ++ codes " made " ++ decimal made

-- What came of a change.
abbrev pub change_text : Change → List ℕ
change_text change.Created = codes "created"
change_text (change.Converted from to made) = codes "converted" ++ step_text from to made
change_text (change.Stopped from to made) = codes "stopped" ++ step_text from to made
change_text change.RemovedNow = codes "removed now"
change_text change.Exists = codes "exists"
change_text change.Absent = codes "absent"
change_text change.Removed = codes "removed"
change_text (change.Last g) = codes "last " ++ decimal g
change_text change.Busy = codes "busy"
change_text (change.Needs name line) = codes "needs " ++ lost_text name line
change_text (change.Unreachable name server) = codes "unreachable " ++ away_text name server
change_text change.Memory = codes "memory"
