-- The coefficients so far are powers.
use Rattle.std.proofs.Common.{◌≡◌, ℕ, ◌/◌, ◌%◌, ◌<◌, length, get_or}
use Rattle.mf_code.specs.Field.{power}
use Rattle.morph_codes.proofs.encoding.put_powers.Given as goal

abbrev pub invariant-loop-i : goal.invariant-loop-i
invariant-loop-i l =
    (length l.rows ≡ length l.fn.rows)
    × ((k : ℕ) → k < l.i → get_or l.rows k 0 ≡ power (get_or l.fn.points (k / l.fn.n) 0) (k % l.fn.n))
