-- The generations that have pins, one answer more; and how many are Done.
use Rattle.std.proofs.Common.{◌≡◌, ℕ, suc, ◌+◌, ◌<◌, ◌≤◌, List, [], ◌∷◌, ◌++◌, length, get_or, take, refl, sym, ap}
use Rattle.std.proofs.Common.{◌∙◌, arith}
use Rattle.std.proofs.Common.{append_assoc, append-nil, length-append}
use Rattle.std.proofs.lemmas.List.{take_more}
use Rattle.mf_machine.specs.declared.answer.Closed.{Closed}
use Rattle.mf_machine.specs.declared.answer.Closed.TheVariants as closed
use Rattle.mf_reclaim.specs.Reclaim.{pins_from, pins_of}

pins_append : (g : ℕ) (answers : List Closed) (c : Closed)
    → pins_from g (answers ++ c ∷ []) ≡ pins_from g answers ++ pins_of (g + length answers) c
pins_append g [] c = append-nil (pins_of g c) ∙ ap (λ n. pins_of n c) (omega arith)
pins_append g (x ∷ answers) c = ap (λ l. pins_of g x ++ l) (pins_append (g + 1) answers c
    ∙ ap (λ n. pins_from (g + 1) answers ++ pins_of n c) (let z : (g + 1) + length answers ≡ g + suc
    (length answers) = omega arith in z))
    ∙ sym (append_assoc (pins_of g x) (pins_from (g + 1) answers) (pins_of (g + suc (length answers)) c))

pub pins_more : (answers : List Closed) (i g : ℕ) (c d : Closed) (pinned next : List (ℕ × ℕ)) → i < length answers
    → c ≡ get_or answers i d → g ≡ i → pinned ≡ pins_from 0 (take i answers) → next ≡ pinned ++ pins_of g c
    → next ≡ pins_from 0 (take (i + 1) answers)
pins_more answers i g c d pinned next low at same so_far e =
    let long = Rattle.std.proofs.lemmas.List.length-take-le i answers (omega arith) in
    e ∙ (ap (λ l. l ++ pins_of g c) so_far
    ∙ (ap (λ n. pins_from 0 (take i answers) ++ pins_of n c) (let z : g ≡ 0 + length
    (take i answers) = omega arith in z)
    ∙ (sym (pins_append 0 (take i answers) c) ∙ (ap (λ x. pins_from 0 (take i answers ++ x ∷ [])) at
    ∙ ap (pins_from 0) (sym (take_more answers i d low))))))
