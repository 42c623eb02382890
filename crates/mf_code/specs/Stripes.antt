-- The stripes of a file. `size` is the number of bytes of a chunk, `bytes` is the number of bytes of the file, and
-- `file`
-- has them.
use Rattle.std.specs.Prelude.{ℕ, ◌+◌, ◌-◌, ◌*◌, min, List, length, map}
use Rattle.std.specs.Int.{div_ceil}
use Rattle.std.specs.List.{range_with_len}
use Rattle.mf_code.specs.Chunks.{chunk_count, chunk, parity}

-- How many stripes of this width the file has: its chunks divided by the width, and rounded up. The last may be short.
abbrev pub stripe_count : ℕ → ℕ → ℕ → ℕ
stripe_count size bytes width = div_ceil (chunk_count size bytes) width

-- The numbers below `count` in groups of `width`, in order: how many numbers group j has. The last may be short.
abbrev pub group_size : ℕ → ℕ → ℕ → ℕ
group_size count width j = min ((j + 1) * width) count - j * width

-- The numbers of group j, ascending.
abbrev pub group : ℕ → ℕ → ℕ → List ℕ
group count width j = range_with_len (j * width) (group_size count width j)

-- How many chunks stripe j of this width has.
abbrev pub piece_count : ℕ → ℕ → ℕ → ℕ → ℕ
piece_count size bytes width j = group_size (chunk_count size bytes) width j

-- The indices of the chunks of stripe j of this width, as far as the file has them.
abbrev pub stripe_chunks : ℕ → ℕ → ℕ → ℕ → List ℕ
stripe_chunks size bytes width j = group (chunk_count size bytes) width j

-- The chunks of stripe j of this width, in order, as far as the file has them.
unfoldable pub stripe : ℕ → List ℕ → ℕ → ℕ → List (List ℕ)
stripe size file width j = map (chunk size file) (stripe_chunks size (length file) width j)

-- Wide stripe j holds `factor` narrow stripes of this width: their numbers, as far as the file has them.
abbrev pub narrow_stripes : ℕ → ℕ → ℕ → ℕ → ℕ → List ℕ
narrow_stripes size bytes width factor j = group (stripe_count size bytes width) factor j

-- The parities with this point of the narrow stripes of wide stripe j, in order.
unfoldable pub narrow_parities : ℕ → List ℕ → ℕ → ℕ → ℕ → ℕ → List (List ℕ)
narrow_parities size file point width factor j =
    map (parity size file point width) (narrow_stripes size (length file) width factor j)
