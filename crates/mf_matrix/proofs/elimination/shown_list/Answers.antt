use Rattle.std.proofs.Common.{ℕ, List, [], ◌∷◌, ◌++◌, ap, sym, ◌∙◌}
use Rattle.mf_code.specs.Rows.{list_of}
use Rattle.mf_matrix.specs.Elimination.{coefficient, shown_at}
use Rattle.mf_matrix.proofs.Sums.{list_of-more}
use Rattle.mf_matrix.proofs.elimination.shown_list.Goals as goal

pub loop-i-preserved : goal.loop-i-preserved
loop-i-preserved c =
    let f : ℕ → ℕ = shown_at (coefficient c.args.equations.now) c.args.column c.args.factor in
    c.in_ok-push.ensures.items
    ∙ ap (λ (xs : List ℕ). xs ++ c.shown.result ∷ []) c.loop-i.invariant
    ∙ ap (λ (x : ℕ). list_of c.loop-i.i f ++ x ∷ []) c.shown.ensures
    ∙ sym (list_of-more c.loop-i.i f)
