-- The texts of reads.
use Rattle.std.specs.Prelude.{ℕ, List, ◌++◌, length, codes, decimal}
use Rattle.std.specs.List.{flat_map}
use Rattle.sha2.specs.Sha256.{sha256}
use Rattle.mf_text.specs.Hex.{hex_text}
use Rattle.mf_places.specs.Texts.{lost_text, away_text}
use Rattle.mf_places.specs.declared.Name.{Name}
use Rattle.mf_read.specs.declared.outcome.ReadOutcome.{ReadOutcome}
use Rattle.mf_read.specs.declared.outcome.ReadOutcome.TheVariants as read

-- Lost names, each behind a space.
abbrev pub lost_names_text : List (Name × ℕ) → List ℕ
lost_names_text names = flat_map (λ (name, line). codes " " ++ lost_text name line) names

-- A stripe of a generation.
abbrev pub stripe_text : (g stripe : ℕ) → List ℕ
stripe_text g stripe = codes " gen " ++ decimal g ++ codes " stripe " ++ decimal stripe

-- A file's bytes: how many they are, the generation, how many chunks were got, and their SHA-256.
abbrev pub bytes_text : (length g from : ℕ) → (digest : List ℕ) → List ℕ
bytes_text length g from digest =
    codes "bytes " ++ decimal length ++ codes " gen " ++ decimal g ++ codes " from " ++ decimal from
    ++ codes " sha256 " ++ hex_text digest

-- What came of a read.
abbrev pub read_text : ReadOutcome → List ℕ
read_text (read.Bytes g bytes from) = bytes_text (length bytes.items) g from (sha256 bytes.items)
read_text read.Absent = codes "absent"
read_text read.Removed = codes "removed"
read_text (read.DataLost g stripe lost) =
    codes "datalost" ++ stripe_text g stripe ++ codes " lost" ++ lost_names_text lost
read_text (read.Unreachable g stripe name server) =
    codes "unreachable" ++ stripe_text g stripe ++ codes " " ++ away_text name server
read_text read.Memory = codes "memory"
