-- The text of counts.
use Rattle.std.specs.Prelude.{ℕ, List, [], ◌∷◌, ◌++◌, codes, decimal}
use Rattle.std.specs.List.{flat_map}
use Rattle.mf_vault.specs.declared.io.Io.{Io}

-- The seven numbers, in the order in which they are printed.
abbrev pub io_numbers : Io → List ℕ
io_numbers io = io.pieces ∷ io.copies ∷ io.parities ∷ io.misses ∷ io.writes ∷ io.probes ∷ io.drops ∷ []

-- A number behind a space.
abbrev pub spaced : ℕ → List ℕ
spaced n = codes " " ++ decimal n

-- The word `io`, and the seven numbers, each behind a space.
abbrev pub io_text : Io → List ℕ
io_text io = codes "io" ++ flat_map spaced (io_numbers io)
