-- The lists that are left of a gate, filled one place after another.
use Rattle.std.proofs.Common.{◌≡◌, ◌↔◌, ℕ, ◌+◌, ◌<◌, ◌≤◌, true, leb, List, set, get_or, length, sym, subst}
use Rattle.std.proofs.Common.{arith, get_or-set_same, get_or-set_other}
use Rattle.std.proofs.lemmas.Bool.{leb-true, le-leb}
use mathlib.Core.Logic.{dite}
use native.Mathlib.Decide.{ℕ_discrete}

-- a fact of each place below g, and of the new value at g
pub set_on : {A : Type 0} → (xs : List A) (g : ℕ) (a d : A) (P : ℕ → A → Type 0) → g < length xs → P g a
    → ((h : ℕ) → h < g → P h (get_or xs h d)) → (h : ℕ) → h < g + 1 → P h (get_or (set xs g a) h d)
set_on xs g a d P l here below h m = dite (ℕ_discrete h g)
    (λ e. subst (λ z. P z (get_or (set xs g a) z d)) (sym e) (subst (P g) (sym (get_or-set_same xs g a d l)) here))
    (λ ne. subst (P h) (sym (get_or-set_other xs g h a d ne)) (below h (omega arith)))

-- the test of the closed bit
pub is_shut : (x y : ℕ) → y ≡ x → (leb 9223372036854775808 x ≡ true) ↔ (9223372036854775808 ≤ y)
is_shut x y e = subst (λ z. (leb 9223372036854775808 x ≡ true) ↔ (9223372036854775808 ≤ z)) (sym e)
    ((λ t. leb-true 9223372036854775808 x t), λ l. le-leb 9223372036854775808 x l)
