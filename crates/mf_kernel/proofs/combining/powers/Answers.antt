use Rattle.std.proofs.Common.{ℕ, ◌*◌, [], ◌∷◌, ◌++◌, ap, ◌∙◌, arith}
use Rattle.std.proofs.lemmas.Slice.{pushed}
use Rattle.mf_code.specs.Field.{power}
use Rattle.mf_code.specs.Rows.{list_of}
use Rattle.mf_kernel.proofs.Fronts.{list_of-more}
use Rattle.mf_kernel.proofs.combining.powers.Goals as goal

pub overflow_cast-t : goal.overflow_cast-t
overflow_cast-t c = record { fits = omega arith }

pub loop-t-preserved : goal.loop-t-preserved
loop-t-preserved c =
    let a = c.args in
    let f = λ (t : ℕ). power a.point (t * a.step) in
    pushed (c.pow.result ∷ []) c.loop-t.invariant c.in_ok-push.was c.push.ensures.items
    ∙ ap (λ (v : ℕ). list_of c.loop-t.t f ++ (v ∷ [])) c.pow.ensures
    ∙ list_of-more c.loop-t.t f
