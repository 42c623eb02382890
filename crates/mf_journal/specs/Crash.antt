-- What a write does to a disk's bytes, and what a crash may do between two syncs.
use Rattle.std.specs.Prelude.{◌≡◌, ◌⊎◌, ℕ, ◌+◌, ◌≤◌, min, max, List, ◌++◌, length, take, drop}

-- new is old with these bytes from this place on, which isn't past its end
abbrev pub Overlays : ℕ → List ℕ → List ℕ → List ℕ → Type 0
Overlays at bytes old new = new ≡ take at old ++ bytes ++ drop (at + length bytes) old

-- after a write of n bytes that a crash cuts short: any bytes in its range and past the old end,
-- the same elsewhere
pub record TornAt (at n : ℕ) (old new : List ℕ) : Type 0 where
  pub before : take (min at (length old)) new ≡ take (min at (length old)) old
  pub behind : drop (at + n) new ≡ drop (at + n) old
  pub no_shorter : length old ≤ length new
  pub no_longer : length new ≤ max (length old) (at + n)

-- each new image is an old one after a step
abbrev pub ComesBy : (List ℕ → List ℕ → Type 0) → (List ℕ → Type 0) → (List ℕ → Type 0) → Type 0
ComesBy step old new = (c : List ℕ) → new c → (d : List ℕ) × old d × step d c

-- a crash leaves this and nothing else
abbrev pub IsLasting : List ℕ → (List ℕ → Type 0) → Type 0
IsLasting bytes images = (c : List ℕ) → images c → c ≡ bytes

-- Time goes on: a crash since t might have left what it might have left before, or what it may
-- leave now.
pub record Advances (before now : ℕ) (past since : ℕ → List ℕ → Type 0)
    (images : List ℕ → Type 0) : Type 0 where
  pub later : before ≤ now
  pub nothing_else : (t : ℕ) (c : List ℕ) → t ≤ before → since t c → past t c ⊎ images c
  pub keeps : (t : ℕ) (c : List ℕ) → t ≤ before → past t c → since t c
