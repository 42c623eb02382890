-- The product and the powers of bytes.
use Rattle.std.specs.Prelude.{ℕ, zero, suc, ◌+◌, ◌*◌, ◌^◌, ◌==◌, if◌then◌else◌, bit_xor}
use Rattle.std.specs.Int.{bit_at}

-- The carry-less product of a and the n lowest bits of b: the exclusive or of a, shifted by each i below n where b
-- has bit i.
unfoldable pub carryless : ℕ → ℕ → ℕ → ℕ
carryless zero a b = 0
carryless (suc n) a b = bit_xor (carryless n a b) (if bit_at b n == 1 then a * 2 ^ n else 0)

-- The remainder by 0x11D of a number below 2 ^ (n + 8), taken by n shifts: from the highest bit down, 0x11D is shifted
-- so that its highest bit, bit 8, comes to bit n + 8, and is taken off by exclusive or where the number has that bit.
unfoldable pub remainder : ℕ → ℕ → ℕ
remainder zero p = p
remainder (suc n) p = remainder n (if bit_at p (n + 8) == 1 then bit_xor p (0x11D * 2 ^ n) else p)

-- The product of two bytes: the remainder of their carry-less product by 0x11D.
unfoldable pub times : ℕ → ℕ → ℕ
times a b = remainder 8 (carryless 8 a b)

-- The power: `a ^ 0` is 1, also for a = 0, and `a ^ (e + 1)` is the product of `a ^ e` and a.
unfoldable pub power : ℕ → ℕ → ℕ
power a zero = 1
power a (suc e) = times (power a e) a
