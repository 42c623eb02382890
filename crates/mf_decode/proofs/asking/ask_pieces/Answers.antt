use Rattle.std.proofs.Common.{ℕ, map, is_some, ap, ◌∙◌, inl, arith, ◌++◌, ◌∷◌, [], ◌+◌}
use Rattle.std.proofs.lemmas.Result.{err_from_is_err_and}
use Rattle.std.proofs.lemmas.List.{length-map, length_push}
use Rattle.mf_decode.proofs.Orders.{pieces_answers-push, are_pieces-push}
use Rattle.mf_decode.proofs.asking.ask_pieces.Goals as goal

pub returns-in_err-push-clause-asked : goal.returns-in_err-push-clause-asked
returns-in_err-push-clause-asked g c =
    let v = c.loop-t.invariant in
    let found = c.loop-t.found.items in
    let o = c.in_ok-piece.field-0 in
    let later = pieces_answers-push (g.P.Pieces.answers c.args.pieces.now) (g.P.Pieces.answers c.loop-t.pieces)
    (g.P.Pieces.answers c.piece.new.self) found o c.loop-t.t v.count c.in_ok-piece.ensures.answers v.answers in
    let p = err_from_is_err_and c.from_residual-in_err-push.result c.from_residual-in_err-push.ensures.1 in
    rw p.1 (
      map is_some (found ++ o ∷ []),
      later,
      inl (
        c.in_ok-piece.ensures.failure,
        simp (length-map, length_push)
            (let n = v.count in let lt = c.loop-t-test.true in omega arith),
      ),
    )

pub loop-t-preserved : goal.loop-t-preserved
loop-t-preserved g c =
    let v = c.loop-t.invariant in
    let found = c.loop-t.found.items in
    let o = c.in_ok-piece.field-0 in
    let pushed = c.in_ok-push.ensures.items in
    record {
      stripe = c.in_ok-piece.ensures.stays.0 ∙ v.stripe;
      made = c.in_ok-piece.ensures.stays.1 ∙ v.made;
      answers = rw pushed
          (pieces_answers-push (g.P.Pieces.answers c.args.pieces.now) (g.P.Pieces.answers c.loop-t.pieces)
          (g.P.Pieces.answers c.piece.new.self) found o c.loop-t.t v.count c.in_ok-piece.ensures.answers v.answers);
      count = rw pushed (length_push found o ∙ ap (λ (n : ℕ). n + 1) v.count);
      each = rw pushed
          (are_pieces-push (g.P.Pieces.stripe c.args.pieces.now) found o c.loop-t.t v.count
          (rw (← v.stripe) c.in_ok-piece.ensures.chunk) v.each);
      unbroken = c.in_ok-piece.ensures.failure;
    }
