-- A lose line that is found.
use Rattle.std.proofs.Common.{ℕ, zero, suc, ◌+◌, ◌<◌, List, [], ◌∷◌, get_or, length, refl, sym, subst, cond}
use Rattle.std.proofs.Common.{eq-eqb, arith}
use Rattle.mf_machine.specs.Counts.{bit}
use Rattle.mf_machine.specs.File.{listed}
use Rattle.mf_machine.proofs.Lists.{bit_is}
use Rattle.mf_places.specs.declared.losses.LoseLine.{LoseLine}
use Rattle.mf_vault.specs.Facts.{lines}

abbrev pub any_line : LoseLine
any_line = record { line = 0; server = 0 }

pub line_at : (xs : List LoseLine) (k : ℕ) (d : LoseLine) → k < length xs
    → 0 < listed (get_or xs k d).line (get_or xs k d).server (lines xs)
line_at [] k d low = absurd (omega arith)
line_at (x ∷ xs) zero d low = subst (λ b. 0 < cond b (bit x.server x.server) 0 + listed x.line x.server (lines xs))
    (sym (eq-eqb x.line x.line refl)) (let one = bit_is x.server x.server refl in omega arith)
line_at (x ∷ xs) (suc k) d low = let more = line_at xs k d (omega arith) in omega arith
