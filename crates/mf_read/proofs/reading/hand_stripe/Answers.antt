use Rattle.std.proofs.Common.{◌-◌, ◌*◌, ℕ, List, length, take, ap, ◌∙◌, subst}
use Rattle.std.specs.List.{concat}
use Rattle.mf_read.specs.Steps.{Hands}
use Rattle.mf_read.proofs.Stripewise.{chunk_bytes}
use Rattle.mf_read.proofs.reading.hand_stripe.Goals as goal

pub returns : goal.returns
returns g c =
    let f = (g.A.Access.actor c.args.access.now).facts in
    let kept = g.met.A.Access.kept c.args.access.now in
    let e = ap (λ (n : ℕ). take n (concat c.args.chunks.now)) c.bytes_left-left.ensures
    ∙ ap (λ (l : List (List ℕ)). take (length f.bytes
    - c.args.j * Rattle.mf_shape.specs.Stages.width_at f.book.shape.stages c.args.g * f.book.chunk) (concat l))
    c.requires.chunks ∙ chunk_bytes f c.args.g c.args.j kept.file in
    subst (λ (l : List ℕ). Hands l c.hand_on.result (g.T.Taker.taken c.args.taker.now)
    (g.T.Taker.taken c.hand_on.new.taker)) e c.hand_on.ensures
