use Rattle.std.proofs.Common.{◌≡◌, ◌++◌, length, take, ap, sym, ◌∙◌, arith}
use Rattle.std.proofs.lemmas.List.{take_all}
use Rattle.std.specs.List.{concat}
use Rattle.mf_code.specs.Stripes.{stripe}
use Rattle.mf_stripe.proofs.Cuts.{join-more, join-front, stripe-joined}
use Rattle.mf_stripe.proofs.cutting.join.Goals as goal

pub returns-in_err-extend_from_slice-clause-front :
    goal.returns-in_err-extend_from_slice-clause-front
returns-in_err-extend_from_slice-clause-front c =
    let a = c.args in
    let out = c.loop-piece.out.items in
    rw c.in_err-extend_from_slice.ensures.items
    (length out, join-front a.most c.loop-piece.piece-index a.out.now.items out a.pieces.now c.loop-piece.invariant)

pub loop-piece-preserved : goal.loop-piece-preserved
loop-piece-preserved c =
    let a = c.args in
    let out = c.loop-piece.out.items in
    rw c.in_ok-extend_from_slice.ensures.items
    (join-more a.most c.loop-piece.piece-index a.out.now.items out c.bytes-bytes.result.now a.pieces.now
    c.piece-item.result c.min.result (omega arith) (c.bytes-bytes.ensures.same
    ∙ c.piece-item.is) c.loop-piece.invariant (omega arith))

pub returns-clause-front : goal.returns-clause-front
returns-clause-front c =
    let a = c.args in
    let out = c.loop-piece.out.items in
    (length out, join-front a.most c.loop-piece.piece-index a.out.now.items out a.pieces.now c.loop-piece.invariant)

pub returns-clause-of_file : goal.returns-clause-of_file
returns-clause-of_file c = λ size file width j pos long before is.
    let a = c.args in
    let all : take c.loop-piece.piece-index a.pieces.now ≡ a.pieces.now =
    take_all c.loop-piece.piece-index a.pieces.now (omega arith) in
    c.loop-piece.invariant ∙ ap (λ ps. take a.most (a.out.now.items ++ concat ps)) (all ∙ is)
    ∙ ap (λ n. take n (a.out.now.items ++ concat (stripe size file width j))) (sym long)
    ∙ stripe-joined size file width j a.out.now.items pos before
