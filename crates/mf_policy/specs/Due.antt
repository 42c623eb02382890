-- Due stages.
use Rattle.std.specs.Prelude.{ℕ, zero, suc, ◌<◌, ◌≤◌, ◌==◌, nat_le, not, Bool, if◌then◌else◌, List, length, map, filter}
use Rattle.std.specs.Prelude.{slice_index, slice_index_or, Option, Some, None}
use Rattle.std.specs.List.{range_with_len}

-- the greatest number below n that passes the test, or 0
abbrev pub greatest : (ℕ → Bool) → ℕ → ℕ
greatest p zero = 0
greatest p (suc n) = if p n then n else greatest p n

-- whether a file of this age has reached stage g
abbrev pub has_reached : List ℕ → ℕ → ℕ → Bool
has_reached thresholds age g = nat_le (slice_index thresholds g) age

-- the greatest stage that a file of this age has reached
abbrev pub due_of : List ℕ → ℕ → ℕ
due_of thresholds age = greatest (has_reached thresholds age) (length thresholds)

-- g is a stage, its threshold is at most the age, and no later stage has such a threshold
pub record IsDue (thresholds : List ℕ) (age g : ℕ) : Type 0 where
  pub stage : g < length thresholds
  pub reached : slice_index thresholds g ≤ age
  pub last : (h : ℕ) → h < length thresholds → slice_index thresholds h ≤ age → h ≤ g

-- the due stage of a file of this age: by the policy of its family, and 0 where that has none
abbrev pub due_by : Option (List ℕ) → (age : ℕ) → ℕ
due_by None age = 0
due_by (Some thresholds) age = due_of thresholds age

-- for each file the policy of its family, by the policies of all families and the number of each file's family
abbrev pub policies_of : List (Option (List ℕ)) → (of : List ℕ) → List (Option (List ℕ))
policies_of policies of = map (λ family. slice_index_or policies family None) of

-- a file's number and its due stage; each file has its family's policy
abbrev pub due_file : List (Option (List ℕ)) → (ages : List ℕ) → (file : ℕ) → ℕ × ℕ
due_file policies ages file = (file, due_by (slice_index_or policies file None) (slice_index ages file))

-- the files whose due stage isn't 0, by number
abbrev pub sweep_of : List (Option (List ℕ)) → (ages : List ℕ) → List (ℕ × ℕ)
sweep_of policies ages =
    filter (λ (due : ℕ × ℕ). not (due.1 == 0)) (map (due_file policies ages) (range_with_len 0 (length ages)))
