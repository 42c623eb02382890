-- What private functions of the elimination cite: systems of linear equations. Equation i is a list of coefficients,
-- and
-- values z solve it where the sum of coefficient j times z j, over the unknowns j, is zero.
use Rattle.std.specs.Prelude.{ℕ, ◌≡◌, ◌≢◌, ◌+◌, ◌<◌, ◌≤◌, ◌⊎◌, ◌==◌, nat_lt, if◌then◌else◌, List}
use Rattle.std.specs.Prelude.{[], slice_index, bit_xor, Option, Some, None}
use Rattle.std.specs.List.{slice_index_or}
use Rattle.mf_code.specs.Field.{times}
use Rattle.mf_code.specs.Sums.{sum_below}
use Rattle.mf_matrix.specs.Tables.{IsBytes, IsTable, identity_at}

-- Coefficient j of equation i.
abbrev pub coefficient : List (List ℕ) → ℕ → ℕ → ℕ
coefficient rows i j = slice_index (slice_index_or rows i []) j

-- The values z solve n equations in m unknowns.
abbrev pub Solves : ℕ → ℕ → (ℕ → ℕ → ℕ) → (ℕ → ℕ) → Type 0
Solves n m e z = (i : ℕ) → i < n → sum_below m (λ j. times (e i j) (z j)) ≡ 0

-- Two systems of n equations in m unknowns have the same solutions.
pub record SameSolutions (n m : ℕ) (old new : ℕ → ℕ → ℕ) : Type 0 where
  pub kept : (z : ℕ → ℕ) → IsBytes z → Solves n m old z → Solves n m new z
  pub none_added : (z : ℕ → ℕ) → IsBytes z → Solves n m new z → Solves n m old z

-- A system that is solved for the first c unknowns: unknown j stands in equation j alone, with coefficient 1.
pub record IsSolvedBelow (n : ℕ) (e : ℕ → ℕ → ℕ) (c : ℕ) : Type 0 where
  pub bytes : IsTable e
  pub units : (i j : ℕ) → i < n → j < c → e i j ≡ identity_at i j

-- f times equation p was added to equation i in the first m coefficients, and all else stays.
pub record AddsTimes (m : ℕ) (old new : ℕ → ℕ → ℕ) (i f p : ℕ) : Type 0 where
  pub here : (j : ℕ) → j < m → new i j ≡ bit_xor (old i j) (times f (old p j))
  pub beyond : (j : ℕ) → m ≤ j → new i j ≡ old i j
  pub elsewhere : (k j : ℕ) → k ≢ i → new k j ≡ old k j

-- Equation i was multiplied by f in the first m coefficients, and all else stays.
pub record Scales (m : ℕ) (old new : ℕ → ℕ → ℕ) (i f : ℕ) : Type 0 where
  pub here : (j : ℕ) → j < m → new i j ≡ times f (old i j)
  pub beyond : (j : ℕ) → m ≤ j → new i j ≡ old i j
  pub elsewhere : (k j : ℕ) → k ≢ i → new k j ≡ old k j

-- The system that says a x = y: equation i has row i of a, and behind it a one at index n + i.
pub record IsSystemOf (n : ℕ) (a e : ℕ → ℕ → ℕ) : Type 0 where
  pub left : (i j : ℕ) → i < n → j < n → e i j ≡ a i j
  pub right : (i j : ℕ) → i < n → j < n → e i (n + j) ≡ identity_at i j

-- No equation from c on has unknown c.
abbrev pub IsStuckAt : ℕ → (ℕ → ℕ → ℕ) → ℕ → Type 0
IsStuckAt n e c = (i : ℕ) → c ≤ i → i < n → e i c ≡ 0

-- Entry i of the list that column c shows: f times the column before c, f at c, and zero after it.
abbrev pub shown_at : (ℕ → ℕ → ℕ) → ℕ → ℕ → ℕ → ℕ
shown_at e c f i = if nat_lt i c then times f (e i c) else (if i == c then f else 0)

-- v is the first number of column c before row c that is not zero, or 1 where there is none.
abbrev pub IsLeading : (ℕ → ℕ → ℕ) → ℕ → ℕ → Type 0
IsLeading e c v =
    ((i : ℕ) × (i < c) × (e i c ≡ v) × (v ≢ 0) × ((k : ℕ) → k < i → e k c ≡ 0))
    ⊎ ((v ≡ 1) × ((k : ℕ) → k < c → e k c ≡ 0))

-- The column of unknown c holds, in the first k equations, what the solved system has there, and the solutions are
-- those of the system that clearing started with.
pub record IsCleared (n m c k : ℕ) (start e : ℕ → ℕ → ℕ) : Type 0 where
  pub same : SameSolutions n m start e
  pub solved : IsSolvedBelow n e c
  pub one : e c c ≡ 1
  pub cleared : (i : ℕ) → i < k → e i c ≡ identity_at i c

-- How a solving ends: each of the n unknowns is solved for, or the system is solved for those before the unknown c, and
-- no equation from c on has it.
abbrev pub EndsAt : ℕ → (ℕ → ℕ → ℕ) → Option ℕ → Type 0
EndsAt n e None = IsSolvedBelow n e n
EndsAt n e (Some c) = (c < n) × IsSolvedBelow n e c × IsStuckAt n e c
