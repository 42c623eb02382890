-- Tables of bytes: the entry in row i and column j is t i j.
use Rattle.std.specs.Prelude.{ℕ, ◌≡◌, ◌<◌, ◌==◌, if◌then◌else◌, List, length, slice_index, Option, Some, None}
use Rattle.mf_code.specs.Field.{times}
use Rattle.mf_code.specs.Sums.{sum_below}

-- The table's entries are bytes.
abbrev pub IsTable : (ℕ → ℕ → ℕ) → Type 0
IsTable t = (i j : ℕ) → t i j < 256

-- The numbers are bytes.
abbrev pub IsBytes : (ℕ → ℕ) → Type 0
IsBytes x = (j : ℕ) → x j < 256

-- The product of row i of a and column j of b, over n indices.
abbrev pub product_at : ℕ → (ℕ → ℕ → ℕ) → (ℕ → ℕ → ℕ) → ℕ → ℕ → ℕ
product_at n a b i j = sum_below n (λ k. times (a i k) (b k j))

-- The entry of the identity: 1 where row and column are one, and else 0.
abbrev pub identity_at : ℕ → ℕ → ℕ
identity_at i j = if i == j then 1 else 0

-- a times b is the identity of n rows and columns.
abbrev pub GivesIdentity : ℕ → (ℕ → ℕ → ℕ) → (ℕ → ℕ → ℕ) → Type 0
GivesIdentity n a b = (i j : ℕ) → i < n → j < n → product_at n a b i j ≡ identity_at i j

-- b, a table of bytes, is an inverse of a: their product is the identity on both sides.
pub record IsInverse (n : ℕ) (a b : ℕ → ℕ → ℕ) : Type 0 where
  pub bytes : IsTable b
  pub on_the_right : GivesIdentity n a b
  pub on_the_left : GivesIdentity n b a

-- a has an inverse.
abbrev pub HasInverse : ℕ → (ℕ → ℕ → ℕ) → Type 0
HasInverse n a = (b : ℕ → ℕ → ℕ) × IsInverse n a b

-- a, of n rows and columns, sends the list x to zero.
abbrev pub SendsToZero : ℕ → (ℕ → ℕ → ℕ) → (ℕ → ℕ) → Type 0
SendsToZero n a x = (i : ℕ) → i < n → sum_below n (λ j. times (a i j) (x j)) ≡ 0

-- a, of n rows and columns, sends only the zero list to zero.
abbrev pub OnlyZero : ℕ → (ℕ → ℕ → ℕ) → Type 0
OnlyZero n a = (x : ℕ → ℕ) → IsBytes x → SendsToZero n a x → (j : ℕ) → j < n → x j ≡ 0

-- Column c depends on the columns before it: it is a sum of multiples of them.
abbrev pub DependsOnEarlier : ℕ → (ℕ → ℕ → ℕ) → ℕ → Type 0
DependsOnEarlier n a c = (w : ℕ → ℕ) × IsBytes w × ((i : ℕ) → i < n → a i c ≡ sum_below c (λ j. times (a i j) (w j)))

-- Column c is the first one that depends on the columns before it.
pub record IsFirstDependent (n : ℕ) (a : ℕ → ℕ → ℕ) (c : ℕ) : Type 0 where
  pub within : c < n
  pub depends : DependsOnEarlier n a c
  pub first : (d : ℕ) → d < c → DependsOnEarlier n a d → ⊥

-- The first entry of x that is not zero is 1.
abbrev pub BeginsWithOne : List ℕ → Type 0
BeginsWithOne x = (j : ℕ) × (slice_index x j ≡ 1) × ((i : ℕ) → i < j → slice_index x i ≡ 0)

-- x is the kernel list of a: n bytes that a sends to zero, which are zero after the first column that depends on the
-- columns before it, and the first of which that is not zero is 1.
pub record IsKernel (n : ℕ) (a : ℕ → ℕ → ℕ) (x : List ℕ) : Type 0 where
  pub len : length x ≡ n
  pub bytes : IsBytes (slice_index x)
  pub to_zero : SendsToZero n a (slice_index x)
  pub zero_after : (c : ℕ) × IsFirstDependent n a c × ((j : ℕ) → c < j → slice_index x j ≡ 0)
  pub begins_with_one : BeginsWithOne x

-- a has no inverse: x is its kernel list, and no other list is.
abbrev pub IsSingular : ℕ → (ℕ → ℕ → ℕ) → List ℕ → Type 0
IsSingular n a x = IsKernel n a x × ((y : List ℕ) → IsKernel n a y → y ≡ x) × (HasInverse n a → ⊥)

-- What a search for the kernel list of a says: a sends only the zero list to zero, or x is its one kernel list.
abbrev pub FindsKernel : ℕ → (ℕ → ℕ → ℕ) → Option (List ℕ) → Type 0
FindsKernel n a None = OnlyZero n a
FindsKernel n a (Some x) = IsSingular n a x
