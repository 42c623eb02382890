-- What a dump says of a file's bytes.
use Rattle.std.specs.Prelude.{◌≡◌, ℕ, ◌<◌, List, ◌++◌, codes, slice_index_or}
use Rattle.sha2.specs.Sha256.{sha256}
use Rattle.mf_text.specs.Hex.{hex_text}
use Rattle.mf_places.specs.Names as names
use Rattle.mf_places.specs.Placement.{server_of}
use Rattle.mf_places.specs.Texts.{name_text}
use Rattle.mf_vault.specs.declared.answers.Rest.TheVariants as rest
use Rattle.mf_vault.specs.Facts.{cell}
use Rattle.mf_plain.specs.Resting.{Resting, AtRest}
use Rattle.mf_report.specs.Lines.{spaced}
use Rattle.mf_report.specs.Dumps.{chunk_text}

-- The line of a chunk that is here, of a file at rest, has the digest of the chunk's cell: of the bytes that the plain
-- encoding of the file's bytes gives it.
abbrev pub HereIsDigest : Type 0
HereIsDigest =
    (r : Resting) → AtRest r → (n : ℕ) → n < names.count_of r.book → (bytes : List ℕ)
    → slice_index_or r.names n rest.Unborn ≡ rest.Here bytes
    → chunk_text r n ≡ codes "chunk " ++ name_text (names.name_at r.book n) ++ codes " server"
    ++ spaced (server_of r.book (names.name_at r.book n)) ++ codes " "
    ++ (codes "here " ++ hex_text (sha256 (cell r.book r.bytes (names.name_at r.book n))))
