-- What reading to the end refuses, and what each refusal leaves.
use Rattle.std.specs.Prelude.{◌≡◌, ℕ, ◌+◌, ◌≤◌, List, length, Option}
use Rattle.std.specs.Io.KnownBytes.{Consumes}
use Rattle.mf_io.specs.Faults.{HasRisen}
use Rattle.mf_io.specs.declared.whole.ReadAll.{ReadAll}
use Rattle.mf_io.specs.declared.whole.ReadAll.TheVariants.{Fault, TooLong, Memory}

-- some bytes were read, in a number that meets P
abbrev pub TookSome : Option (List ℕ) → Option (List ℕ) → (ℕ → Type 0) → Type 0
TookSome old new P = (bytes : List ℕ) × Consumes old new bytes × P (length bytes)

-- Fault: a read failed after at most the limit. TooLong: one byte more than the limit was read, and no
-- read failed. Memory: at most the limit was read, and no read failed.
abbrev pub LeavesRefused : ReadAll → ℕ → Option (List ℕ) → Option (List ℕ) → ℕ → ℕ → Type 0
LeavesRefused Fault limit old new faults after = HasRisen faults after × TookSome old new (λ n. n ≤ limit)
LeavesRefused TooLong limit old new faults after = (after ≡ faults) × TookSome old new (λ n. n ≡ limit + 1)
LeavesRefused Memory limit old new faults after = (after ≡ faults) × TookSome old new (λ n. n ≤ limit)
