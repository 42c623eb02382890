-- Which table it is, as a list of numbers.
use Rattle.std.specs.Prelude.{ℕ, List, ◌∷◌}
use Rattle.atomic_table.specs.Seated.{TableId}

-- the numbers that tell a table from every other
abbrev pub code_of : TableId → List ℕ
code_of z = z.words ∷ z.slots ∷ z.views_name ∷ z.atom ∷ z.block ∷ z.offset ∷ z.slot_names
