use Rattle.std.proofs.Common.{sym, ap, lit<, codes, ◌++◌, ◌∷◌}
use Rattle.std.proofs.lemmas.Fmt.{decimal_digit}
use Rattle.mf_report.specs.Lines.{ended}
use Rattle.mf_report.proofs.verdicts.too_long_line.Goals as goal

pub returns : goal.returns
returns c =
    sym
    (ap (λ d. ended (codes "refused line" ++ 32 ∷ d ++ codes " " ++ codes "limit text"))
    (decimal_digit 0 (lit< tt)))
