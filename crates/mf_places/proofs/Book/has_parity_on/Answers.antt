use Rattle.std.proofs.Common.{◌≡◌, ◌+◌, ◌%◌, false, ap, subst, sym, ◌∙◌, arith, ⊎_elim}
use Rattle.std.proofs.lemmas.Bool.{cases_lt, ne_eqb}
use Rattle.mf_shape.specs.Stages.{max_width}
use Rattle.mf_places.specs.declared.Name.TheVariants as name
use Rattle.mf_places.specs.Facts.{BookFacts}
use Rattle.mf_places.specs.Placement.{server_of, is_on}
use Rattle.mf_places.proofs.Book.has_parity_on.Goals as goal

pub loop-p-preserved : goal.loop-p-preserved
loop-p-preserved c = λ q low.
    let b = c.args.self.now in
    let widest : c.self.inside.widest ≡ max_width b.shape.stages =
    c.self.invariant.widest ∙ ap (λ (v : BookFacts). max_width v.shape.stages) c.self.view_is in
    let file : c.self.inside.file ≡ b.file = ap (λ (v : BookFacts). v.file) c.self.view_is in
    let shape : c.self.inside.shape.servers ≡ b.shape.servers = ap (λ (v : BookFacts). v.shape.servers) c.self.view_is in
    let servers : c.servers.result ≡ b.shape.servers = omega (arith, c.servers.ensures.value, shape) in
    ⊎_elim (λ before. c.loop-p.invariant q before)
    (λ last.
    let same : q ≡ c.loop-p.p = omega arith in
    subst (λ k. is_on b c.args.server (name.Parity 0 0 k) ≡ false) (sym same)
    (ne_eqb (server_of b (name.Parity 0 0 c.loop-p.p)) c.args.server (λ e. c.if-on-server.false
    ((λ i. (file i + (widest i + c.loop-p.p)) % servers i) ∙ e))))
    (cases_lt q c.loop-p.p)
