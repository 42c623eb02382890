-- Candidates that are checked one after the other.
use Rattle.std.proofs.Common.{◌≡◌, inl, inr, ℕ, ◌+◌, ◌<◌, ◌↔◌, Bool, false, IsTrue, List, [], ◌∷◌}
use Rattle.std.proofs.Common.{◌++◌}
use Rattle.std.proofs.Common.{length, get_or, sym, ap, subst, ◌∙◌, arith}
use Rattle.std.proofs.lemmas.Bool.{cases_lt}
use Rattle.std.proofs.lemmas.List.{get_or_append_left, get_or_push}

-- one more
pub checked_more : (P : ℕ → Type 0) (old new : List Bool) (found : Bool) (i : ℕ) → length old ≡ i
    → new ≡ old ++ found ∷ [] → ((k : ℕ) → k < i → IsTrue (get_or old k false) ↔ P k)
    → (IsTrue found ↔ P i) → (k : ℕ) → k < i + 1 → IsTrue (get_or new k false) ↔ P k
checked_more P old new found i size is so_far here k within = elim (cases_lt k i) [
  | inl less ↦
      let same = ap (λ l. get_or l k false) is
      ∙ get_or_append_left old (found ∷ []) false k (omega (arith, less, size)) in
      subst (λ b. IsTrue b ↔ P k) (sym same) (so_far k less)
  | inr ge ↦
      let last : k ≡ i = omega (arith, within, ge) in
      let same = ap (λ l. get_or l i false) is ∙ get_or_push old found false i size in
      subst (λ n. IsTrue (get_or new n false) ↔ P n) (sym last)
      (subst (λ b. IsTrue b ↔ P i) (sym same) here)
]
