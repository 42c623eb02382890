-- The chunks of a file, and its parities. `size` is the number of bytes of a chunk, and `file` has the file's bytes.
use Rattle.std.specs.Prelude.{ℕ, ◌+◌, ◌-◌, ◌*◌, min, List, length, map, slice_index}
use Rattle.std.specs.Int.{div_ceil}
use Rattle.std.specs.List.{range_with_len}
use Rattle.mf_code.specs.Field.{times, power}
use Rattle.mf_code.specs.Sums.{sum_between}
use Rattle.mf_code.specs.Rows.{list_of}

-- How many chunks a file of so many bytes has: the bytes divided by the size of a chunk, and rounded up.
abbrev pub chunk_count : ℕ → ℕ → ℕ
chunk_count size bytes = div_ceil bytes size

-- Chunk i: its byte x is byte i * size + x of the file, or 0 where the file has no such byte.
unfoldable pub chunk : ℕ → List ℕ → ℕ → List ℕ
chunk size file i = list_of size (λ x. slice_index file (i * size + x))

-- Byte x of the parity with this point of stripe j of this width: the sum, over the chunks t of the stripe as far as
-- the file has them, of point ^ (t - j * width) times byte x of chunk t.
unfoldable pub parity_byte : ℕ → List ℕ → ℕ → ℕ → ℕ → ℕ → ℕ
parity_byte size file point width j x =
    sum_between (j * width) (min ((j + 1) * width) (chunk_count size (length file)))
    (λ t. times (power point (t - j * width)) (slice_index (chunk size file t) x))

-- The parity with this point of stripe j of this width.
unfoldable pub parity : ℕ → List ℕ → ℕ → ℕ → ℕ → List ℕ
parity size file point width j = list_of size (parity_byte size file point width j)

-- The chunks of the file, in order.
unfoldable pub chunks : ℕ → List ℕ → List (List ℕ)
chunks size file = map (chunk size file) (range_with_len 0 (chunk_count size (length file)))
