-- The bytes of a file.
use Rattle.std.specs.Prelude.{ℕ, ◌+◌, ◌%◌, List, [], map}
use Rattle.std.specs.List.{range_with_len}
use Rattle.mf_lines.specs.declared.parts.Content.{Content}
use Rattle.mf_lines.specs.declared.parts.Content.TheVariants as given

-- n bytes, of which byte x is (x + start) mod 251
abbrev pub pattern_bytes : ℕ → ℕ → List ℕ
pattern_bytes n start = map (λ x. (x + start) % 251) (range_with_len 0 n)

-- the bytes that are given so
abbrev pub bytes_in : Content → List ℕ
bytes_in given.Empty = []
bytes_in (given.Text bytes) = bytes
bytes_in (given.Hex bytes) = bytes
bytes_in (given.Pattern n start) = pattern_bytes n start
