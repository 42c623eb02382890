-- The texts of faults.
use Rattle.std.specs.Prelude.{ℕ, List, [], ◌++◌, codes, decimal}
use Rattle.mf_shape.specs.declared.ShapeFault.{ShapeFault}
use Rattle.mf_shape.specs.declared.ShapeFault.TheVariants as fault

-- What is wrong with a chain of stages: a word, and the number that the fault names. Want of memory has no text.
abbrev pub shape_text : ShapeFault → List ℕ
shape_text fault.NoStage = codes "nostage"
shape_text fault.TooManyStages = codes "toomanystages"
shape_text (fault.Width g) = codes "width " ++ decimal g
shape_text (fault.Parities g) = codes "parities " ++ decimal g
shape_text (fault.Copies g) = codes "copies " ++ decimal g
shape_text (fault.NotMultiple g) = codes "notmultiple " ++ decimal g
shape_text (fault.ParitiesGrow g) = codes "paritiesgrow " ++ decimal g
shape_text (fault.CopiesGrow g) = codes "copiesgrow " ++ decimal g
shape_text (fault.ParitiesOverWidth g) = codes "paritiesoverwidth " ++ decimal g
shape_text fault.CopiesDontFit = codes "copiesdontfit"
shape_text (fault.Servers n) = codes "servers " ++ decimal n
shape_text fault.Memory = []
