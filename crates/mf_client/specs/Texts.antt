-- The texts of outcomes and places.
use Rattle.std.specs.Prelude.{ℕ, List, ◌++◌, codes, decimal}
use Rattle.mf_convert.specs.Texts.{change_text}
use Rattle.mf_read.specs.Texts.{bytes_text, read_text}
use Rattle.mf_repair.specs.Texts.{repair_text}
use Rattle.mf_reclaim.specs.Texts.{reclaim_text}
use Rattle.mf_client.specs.declared.done.Place.{Place}
use Rattle.mf_client.specs.declared.done.Outcome.{Outcome}
use Rattle.mf_client.specs.declared.done.Outcome.TheVariants as outcome

-- Phase, client and command, from 1, with points between them.
abbrev pub place_text : Place → List ℕ
place_text place = decimal place.phase ++ codes "." ++ decimal place.client ++ codes "." ++ decimal place.command

-- What came of a command.
abbrev pub outcome_text : Outcome → List ℕ
outcome_text (outcome.Change change) = change_text change
outcome_text (outcome.Bytes g length from digest) = bytes_text length g from digest
outcome_text (outcome.Refused read) = read_text read
outcome_text (outcome.Held g) = codes "held " ++ decimal g
outcome_text (outcome.AlreadyHeld g) = codes "already " ++ decimal g
outcome_text outcome.HoldAbsent = codes "absent"
outcome_text outcome.HoldRemoved = codes "removed"
outcome_text (outcome.Released g) = codes "released " ++ decimal g
outcome_text outcome.NotHeld = codes "notheld"
outcome_text (outcome.Lost n) = codes "lost " ++ decimal n
outcome_text (outcome.Repair repair) = repair_text repair
outcome_text (outcome.Reclaim reclaim) = reclaim_text reclaim
outcome_text (outcome.Swept n) = codes "swept " ++ decimal n
outcome_text outcome.Memory = codes "memory"
