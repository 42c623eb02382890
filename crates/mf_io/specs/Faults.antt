-- What a count of faults says of one call, or of several.
use Rattle.std.specs.Prelude.{◌≡◌, ℕ, ◌-◌, ◌^◌, ◌<◌, ◌⊎◌, Result, MatchResult}

-- the count rose; at the greatest number of 64 bits, where it can't rise, it counts as risen
abbrev pub HasRisen : ℕ → ℕ → Type 0
HasRisen old new = (old < new) ⊎ ((new ≡ old) × (new ≡ 2 ^ 64 - 1))

-- a call that succeeds leaves the count as it was, and one that fails raises it
abbrev pub CountsFailure : {X E : Type 0} → ℕ → ℕ → Result X E → Type 0
CountsFailure old new r = MatchResult r (λ _. new ≡ old) (λ _. HasRisen old new)
