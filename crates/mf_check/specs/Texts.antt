-- The texts of faults.
use Rattle.std.specs.Prelude.{ℕ, List, [], ◌++◌, codes, decimal}
use Rattle.std.specs.List.{flat_map}
use Rattle.mf_check.specs.declared.FamilyFault.{FamilyFault}
use Rattle.mf_check.specs.declared.FamilyFault.TheVariants as fault

-- Numbers, each behind a space.
abbrev pub spaced : ℕ → List ℕ
spaced n = codes " " ++ decimal n

abbrev pub numbers_text : List ℕ → List ℕ
numbers_text numbers = flat_map spaced numbers

-- What is wrong with the points of a chain. Want of memory has no text.
abbrev pub family_text : FamilyFault → List ℕ
family_text (fault.PointCount n) = codes "pointcount " ++ decimal n
family_text (fault.PointZero i) = codes "pointzero " ++ decimal i
family_text (fault.PointTwice i j) = codes "pointtwice " ++ decimal i ++ codes " " ++ decimal j
family_text (fault.Undecodable g places kernel) =
    codes "undecodable " ++ decimal g ++ codes " places" ++ numbers_text places ++ codes " kernel" ++ numbers_text kernel
family_text fault.Memory = []
