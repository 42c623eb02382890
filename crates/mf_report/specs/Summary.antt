-- The line that sums up the run of a seed's script.
use Rattle.std.specs.Prelude.{ℕ, Bool, true, false, List, [], ◌∷◌, ◌++◌, codes, decimal, map, filter, length}
use Rattle.std.specs.List.{flat_map, sum_by}
use Rattle.sha2.specs.Sha256.{sha256}
use Rattle.mf_text.specs.Hex.{hex_text}
use Rattle.mf_convert.specs.declared.change.Change.{Change}
use Rattle.mf_convert.specs.declared.change.Change.TheVariants as change
use Rattle.mf_read.specs.declared.outcome.ReadOutcome.TheVariants as read
use Rattle.mf_repair.specs.declared.outcome.RepairOutcome.TheVariants as repair
use Rattle.mf_client.specs.declared.done.Outcome.{Outcome}
use Rattle.mf_client.specs.declared.done.Outcome.TheVariants as outcome
use Rattle.mf_client.specs.declared.done.Part.{Part}
use Rattle.mf_client.specs.declared.done.Done.{Done}
use Rattle.mf_report.specs.Lines.{ended, spaced}

-- a read had its file's bytes
abbrev pub had_bytes : Outcome → Bool
had_bytes (outcome.Bytes g length from digest) = true
had_bytes any_other = false

-- a read found more names lost than its generation bears
abbrev pub had_lost : Outcome → Bool
had_lost (outcome.Refused (read.DataLost g stripe lost)) = true
had_lost any_other = false

-- how many names a repair restored
abbrev pub restored_by : Outcome → ℕ
restored_by (outcome.Repair (repair.Repaired restored skipped)) = restored
restored_by any_other = 0

-- a generation was published
abbrev pub is_converted : Change → Bool
is_converted (change.Converted from to made) = true
is_converted any_other = false

-- the change that a command made, where it made one itself
abbrev pub own_changes : Outcome → List Change
own_changes (outcome.Change change) = change ∷ []
own_changes any_other = []

-- the changes of a command: its own, and those of its parts
abbrev pub changes_of : Done → List Change
changes_of done = own_changes done.outcome ++ map (λ (part : Part). part.change) done.parts

-- how many of the commands are reads that had bytes
abbrev pub reads : List Done → ℕ
reads done = length (filter (λ (d : Done). had_bytes d.outcome) done)

-- how many are reads that lost data
abbrev pub losses : List Done → ℕ
losses done = length (filter (λ (d : Done). had_lost d.outcome) done)

-- how many generations were published, those of parts included
abbrev pub conversions : List Done → ℕ
conversions done = length (filter is_converted (flat_map changes_of done))

-- how many names were restored
abbrev pub repairs : List Done → ℕ
repairs done = sum_by (λ (d : Done). restored_by d.outcome) done

-- the numbers of reads, changes and repairs
unfoldable pub counts_text : List Done → List ℕ
counts_text done =
    (codes " reads " ++ decimal (reads done) ++ codes " lost " ++ decimal (losses done))
    ++ (codes " converted " ++ decimal (conversions done) ++ codes " repaired " ++ decimal (repairs done))

-- the digest of a text
unfoldable pub digest_text : List ℕ → List ℕ
digest_text report = codes " report " ++ hex_text (sha256 report)

-- the line of seed n, where its script's commands were done so, and their report has this text
abbrev pub summary_text : ℕ → List Done → List ℕ → List ℕ
summary_text n done report =
    ended (codes "seed" ++ spaced n ++ codes " commands" ++ spaced (length done) ++ counts_text done ++ digest_text report)
