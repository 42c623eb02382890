-- The rows so far.
use Rattle.std.proofs.Common.{◌≡◌, ℕ, ◌*◌, ◌<◌, length}
use Rattle.mf_decode.specs.Rows.{IsDecodingRow}
use Rattle.morph_codes.specs.Decoded.{row_at}
use Rattle.morph_codes.specs.Handed.{plan_of}
use Rattle.morph_codes.proofs.decoding.rows_of.Given as goal

abbrev pub invariant-loop-e : goal.invariant-loop-e
invariant-loop-e l =
    (length l.rows.items ≡ l.e * l.fn.count)
    × ((i : ℕ) → i < l.e → IsDecodingRow (plan_of l.fn.points l.fn.count l.fn.lost l.fn.had) i l.fn.count
    (row_at l.fn.count l.rows.items i))
