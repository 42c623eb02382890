-- Below the index the rule holds. From there on nothing has changed.
use Rattle.std.proofs.Common.{◌≡◌, ℕ, ◌*◌, ◌<◌, ◌≤◌, get_or, bit_xor}
use Rattle.mf_code.specs.Field.{times}
use Rattle.mf_kernel.proofs.kernels.add_products.Given as goal

abbrev pub invariant-loop-pair : goal.invariant-loop-pair
invariant-loop-pair l =
    ((k : ℕ) → k < l.pair * 64 → get_or l.dst k 0 ≡ bit_xor (get_or l.fn.dst k 0) (times l.factor (get_or l.src k 0)))
    × ((k : ℕ) → l.pair * 64 ≤ k → get_or l.dst k 0 ≡ get_or l.fn.dst k 0)

abbrev pub invariant-loop-block : goal.invariant-loop-block
invariant-loop-block l =
    ((k : ℕ) → k < l.block * 32 → get_or l.dst k 0 ≡ bit_xor (get_or l.fn.dst k 0) (times l.factor (get_or l.src k 0)))
    × ((k : ℕ) → l.block * 32 ≤ k → get_or l.dst k 0 ≡ get_or l.fn.dst k 0)

abbrev pub invariant-loop-i : goal.invariant-loop-i
invariant-loop-i l =
    ((k : ℕ) → k < l.i → get_or l.dst k 0 ≡ bit_xor (get_or l.fn.dst k 0) (times l.factor (get_or l.src k 0)))
    × ((k : ℕ) → l.i ≤ k → get_or l.dst k 0 ≡ get_or l.fn.dst k 0)
