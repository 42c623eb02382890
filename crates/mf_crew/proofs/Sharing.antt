-- The shares of the clients of a phase.
use Rattle.std.proofs.Common.{◌≡◌, ℕ, zero, suc, ◌+◌, ◌-◌, ◌*◌, ◌^◌, ◌<◌, ◌≤◌, subst, arith}
use Rattle.std.proofs.Math.Nat.{pow-succ'}
use Rattle.mf_crew.specs.Live.{share_of}

positive : (n : ℕ) → 1 ≤ 2 ^ n
positive zero = omega arith
positive (suc n) = omega (arith, positive n, pow-succ' 2 n)

-- the next client's actors have half of a share, and as much stays
pub record Halved (c : ℕ) : Type 0 where
  pub more : share_of c ≡ share_of (c + 1) + share_of (c + 1)
  pub some : 1 ≤ share_of (c + 1)

pub halved : (c : ℕ) → c < 8 → Halved c
halved c few =
    let next : suc (30 - (c + 1)) ≡ 30 - c = omega arith in
    let twice : 2 ^ (30 - c) ≡ 2 * 2 ^ (30 - (c + 1)) =
    subst (λ (z : ℕ). 2 ^ z ≡ 2 * 2 ^ (30 - (c + 1))) next (pow-succ' 2 (30 - (c + 1))) in
    record { more = omega (arith, twice); some = positive (30 - (c + 1)) }
