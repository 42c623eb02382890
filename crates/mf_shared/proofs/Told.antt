-- The numbers of a table tell it.
use Rattle.std.proofs.Common.{◌≡◌, ℕ, zero, List, [], ◌∷◌, ap}
use Rattle.atomic_table.specs.Seated.{TableId}
use Rattle.mf_shared.specs.Tables.{code_of}

abbrev first : List ℕ → ℕ
first [] = zero
first (x ∷ xs) = x

abbrev rest : List ℕ → List ℕ
rest [] = []
rest (x ∷ xs) = xs

-- the table of a list of numbers
abbrev table_of : List ℕ → TableId
table_of l = record {
  words = first l;
  slots = first (rest l);
  views_name = first (rest (rest l));
  atom = first (rest (rest (rest l)));
  block = first (rest (rest (rest (rest l))));
  offset = first (rest (rest (rest (rest (rest l)))));
  slot_names = rest (rest (rest (rest (rest (rest l)))));
}

-- two tables with the same numbers are one
pub code_tells : (y z : TableId) → code_of y ≡ code_of z → y ≡ z
code_tells y z e = ap table_of e
