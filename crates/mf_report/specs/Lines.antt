-- Written lines, and numbers that stand in them.
use Rattle.std.specs.Prelude.{ℕ, List, [], ◌∷◌, ◌++◌, codes, decimal}

-- a line with its end
abbrev pub ended : List ℕ → List ℕ
ended line = line ++ 10 ∷ []

-- a space and a number
abbrev pub spaced : ℕ → List ℕ
spaced n = codes " " ++ decimal n
