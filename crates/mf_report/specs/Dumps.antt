-- The dump of a file at rest.
use Rattle.std.specs.Prelude.{ℕ, ◌+◌, ◌-◌, ◌==◌, Bool, true, false, if◌then◌else◌, List, [], ◌∷◌, ◌++◌, length, map}
use Rattle.std.specs.Prelude.{codes}
use Rattle.std.specs.Prelude.{slice_index_or, Option, Some, None}
use Rattle.std.specs.List.{flat_map, range_with_len, slice_get}
use Rattle.sha2.specs.Sha256.{sha256}
use Rattle.mf_text.specs.Hex.{hex_text}
use Rattle.mf_places.specs.Names as names
use Rattle.mf_places.specs.Placement.{server_of}
use Rattle.mf_places.specs.Texts.{name_text}
use Rattle.mf_vault.specs.declared.answers.Rest.{Rest}
use Rattle.mf_vault.specs.declared.answers.Rest.TheVariants as rest
use Rattle.mf_plain.specs.Resting.{Resting}
use Rattle.mf_lines.specs.LineTexts.{name_at}
use Rattle.mf_report.specs.Lines.{ended, spaced}

-- a published number, of so many stages: none, a generation, or that the file is removed
abbrev pub published_text : ℕ → ℕ → List ℕ
published_text stages number =
    if number == 0 then codes " none" else (if number == stages + 1 then codes " removed" else spaced (number - 1))

-- the first line: the file's name, what is published of it, and how many bytes it has
abbrev pub head_text : List ℕ → Resting → List ℕ
head_text name r =
    codes "dump " ++ name ++ codes " published" ++ published_text (length r.book.shape.stages) r.number
    ++ codes " length" ++ spaced r.book.bytes

-- whether a generation is closed
abbrev pub kept_text : Bool → List ℕ
kept_text true = codes " closed"
kept_text false = codes " kept"

-- the line of generation g
abbrev pub generation_text : Resting → ℕ → List ℕ
generation_text r g = codes "gen" ++ spaced g ++ kept_text (slice_index_or r.closed g false)

-- the state of a chunk; of one that is here the SHA-256 of its bytes
abbrev pub rest_text : Rest → List ℕ
rest_text rest.Unborn = codes "unborn"
rest_text (rest.Here bytes) = codes "here " ++ hex_text (sha256 bytes)
rest_text (rest.Lost line) = codes "lost" ++ spaced line
rest_text rest.Dropped = codes "dropped"

-- the line of name number n: the name, its server and its state
abbrev pub chunk_text : Resting → ℕ → List ℕ
chunk_text r n =
    codes "chunk " ++ name_text (names.name_at r.book n) ++ codes " server"
    ++ spaced (server_of r.book (names.name_at r.book n))
    ++ codes " " ++ rest_text (slice_index_or r.names n rest.Unborn)

-- the lines of the dump of a file of this name: the first, and then one for each generation and each name
abbrev pub dump_lines : List ℕ → Resting → List (List ℕ)
dump_lines name r =
    head_text name r
    ∷ map (generation_text r) (range_with_len 0 (length r.book.shape.stages))
    ++ map (chunk_text r) (range_with_len 0 (names.count_of r.book))

-- the lines of the dump of a file of this name, if it is there
abbrev pub lines_if : List ℕ → Option Resting → List (List ℕ)
lines_if name None = []
lines_if name (Some r) = dump_lines name r

-- the lines of the dumps of the files of these numbers
abbrev pub dumps_lines : List (List ℕ) → List Resting → List ℕ → List (List ℕ)
dumps_lines names files dumps = flat_map (λ file. lines_if (name_at names file) (slice_get files file)) dumps

-- these dumps
abbrev pub dumps_text : List (List ℕ) → List Resting → List ℕ → List ℕ
dumps_text names files dumps = flat_map ended (dumps_lines names files dumps)
