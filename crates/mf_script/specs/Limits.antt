-- The limits of scripts.
use Rattle.std.specs.Prelude.{◌≡◌, ◌<◌, ◌≤◌, ℕ, ◌+◌, List, [], ◌∷◌, length, slice_get, Some}
use Rattle.std.specs.List.{All}
use Rattle.mf_code.specs.Chunks.{chunk_count}
use Rattle.mf_lines.specs.declared.parts.FileLine.{FileLine}
use Rattle.mf_lines.specs.declared.parts.Client.{Client}
use Rattle.mf_lines.specs.declared.parts.Item.{Item}
use Rattle.mf_lines.specs.declared.parts.Item.TheVariants as item
use Rattle.mf_lines.specs.Meaning.{Script, phases_in}
use Rattle.mf_lines.specs.Keeps.{FileFits}
use Rattle.mf_script.specs.Contents.{bytes_in}
use Rattle.mf_script.specs.Scripts.{IsScript}

-- the number of commands of clients, of an item, and of items
unfoldable pub in_clients : List Client → ℕ
in_clients [] = 0
in_clients (c ∷ cs) = length c.commands + in_clients cs

unfoldable pub in_item : Item → ℕ
in_item (item.Tick ticks) = 0
in_item (item.Phase clients) = in_clients clients

unfoldable pub in_items : List Item → ℕ
in_items [] = 0
in_items (x ∷ xs) = in_item x + in_items xs

-- A script of a text has a chunk size from 1 to 65,536; at most 64 files, each of which fits it; at most 64 phases, and
-- at most 1,024 commands.
pub record Limits (s : Script) : Type 0 where
  pub chunk : (1 ≤ s.chunk) × (s.chunk ≤ 65536)
  pub files : length s.files ≤ 64
  pub each : All (λ (file : FileLine). FileFits s.chunk file.content) s.files
  pub phases : length (phases_in s.items) ≤ 64
  pub commands : in_items s.items ≤ 1024

-- a file is one of the first 64, and its bytes are at most 1,048,576, in at most 1,024 chunks
pub record FileIs (s : Script) (n : ℕ) (line : FileLine) : Type 0 where
  pub number : n < 64
  pub short : length (bytes_in line.content) ≤ 1048576
  pub cut : chunk_count s.chunk (length (bytes_in line.content)) ≤ 1024

-- Each script of a text keeps its limits, and each of its files those of a file.
pub record ScriptsKeepLimits : Type 0 where
  pub limits : (text : List ℕ) (s : Script) → IsScript text s → Limits s
  pub files : (text : List ℕ) (s : Script) (n : ℕ) (line : FileLine) → IsScript text s → slice_get s.files n ≡ Some line
      → FileIs s n line
