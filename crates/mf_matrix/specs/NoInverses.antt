-- When a table has no inverse.
use Rattle.std.specs.Prelude.{ℕ, ⊤}
use Rattle.mf_matrix.specs.declared.NoInverse.{NoInverse}
use Rattle.mf_matrix.specs.declared.NoInverse.TheVariants.{Kernel, Memory}
use Rattle.mf_matrix.specs.Tables.{IsSingular}

-- Why a table of n rows and columns has no inverse: x is its kernel list, and no other list is. Want of memory says
-- nothing.
abbrev pub IsNoInverse : ℕ → (ℕ → ℕ → ℕ) → NoInverse → Type 0
IsNoInverse n a (Kernel x) = IsSingular n a x
IsNoInverse n a Memory = ⊤
