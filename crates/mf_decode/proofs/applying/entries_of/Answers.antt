use Rattle.std.proofs.Common.{◌≡◌, ℕ, [], ◌∷◌, ◌++◌, ap, ◌∙◌, arith}
use Rattle.std.proofs.lemmas.Slice.{pushed}
use Rattle.mf_code.specs.Rows.{list_of}
use Rattle.mf_matrix.specs.Matrix.{entry}
use Rattle.mf_kernel.proofs.Fronts.{list_of-more}
use Rattle.mf_decode.proofs.applying.entries_of.Goals as goal

pub loop-j-preserved : goal.loop-j-preserved
loop-j-preserved c =
    let f = entry c.args.inverse.now c.args.e in
    pushed (c.at.result ∷ []) c.loop-j.invariant c.in_ok-push.was c.push.ensures.items
    ∙ ap (λ (v : ℕ). list_of c.loop-j.j f ++ (v ∷ [])) c.at.ensures ∙ list_of-more c.loop-j.j f

pub returns : goal.returns
returns c =
    c.loop-j.invariant
    ∙ ap (λ (n : ℕ). list_of n (entry c.args.inverse.now c.args.e))
    (let e : c.loop-j.j ≡ c.args.inverse.now.columns = omega arith in e)
