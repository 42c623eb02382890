use Rattle.std.proofs.Common.{ℕ, List, is_some, ap, ◌∙◌, inl, arith}
use Rattle.std.proofs.lemmas.Result.{err_from_is_err_and}
use Rattle.std.proofs.lemmas.List.{length_push}
use Rattle.mf_decode.proofs.Orders.{are_parities-push, asked_so_far-had, asked_so_far-missed}
use Rattle.mf_decode.proofs.asking.ask_parities.Goals as goal
use Rattle.mf_decode.proofs.asking.ask_parities.Goals.{in-Some+in_ok-push+in_ok-push-2, in_default}

pub returns-in_err-push-clause-asked : goal.returns-in_err-push-clause-asked
returns-in_err-push-clause-asked g c =
    let v = c.loop-p.invariant in
    let A = g.P.Pieces.answers in
    let (hs, order, here, numbers, had) = asked_so_far-had c.args.points c.args.wanted (A c.args.pieces.now)
    (A c.loop-p.pieces) (A c.parity.new.self) c.loop-p.numbers.items c.loop-p.p c.in_ok-chunk.field-0
    c.in-Some.chunk c.in-Some.is c.in_ok-chunk.ensures.answers c.loop-p-test.true (omega arith) v.asked in
    let p = err_from_is_err_and c.from_residual-in_err-push.result c.from_residual-in_err-push.ensures.1 in
    rw p.1 (hs, order, inl c.in_ok-chunk.ensures.failure)

pub returns-in_err-push-2-clause-asked : goal.returns-in_err-push-2-clause-asked
returns-in_err-push-2-clause-asked g c =
    let v = c.loop-p.invariant in
    let A = g.P.Pieces.answers in
    let (hs, order, here, numbers, had) = asked_so_far-had c.args.points c.args.wanted (A c.args.pieces.now)
    (A c.loop-p.pieces) (A c.parity.new.self) c.loop-p.numbers.items c.loop-p.p c.in_ok-chunk.field-0
    c.in-Some.chunk c.in-Some.is c.in_ok-chunk.ensures.answers c.loop-p-test.true (omega arith) v.asked in
    let p = err_from_is_err_and c.from_residual-in_err-push-2.result c.from_residual-in_err-push-2.ensures.1 in
    rw p.1 (hs, order, inl c.in_ok-chunk.ensures.failure)

pub loop-p-preserved : goal.loop-p-preserved
loop-p-preserved g c =
    let v = c.loop-p.invariant in
    let A = g.P.Pieces.answers in
    let stripe = g.P.Pieces.stripe c.args.pieces.now in
    let test = c.if-len-wanted.true in
    record {
      stripe = c.in_ok-chunk.ensures.stays.0 ∙ v.stripe;
      made = c.in_ok-chunk.ensures.stays.1 ∙ v.made;
      asked = elim c.match-branch-4.branch [
        | in-Some+in_ok-push+in_ok-push-2 w ↦ rw (w.numbers-is, w.in_ok-push.ensures.items)
            (asked_so_far-had c.args.points c.args.wanted (A c.args.pieces.now) (A c.loop-p.pieces)
            (A c.parity.new.self) c.loop-p.numbers.items c.loop-p.p c.in_ok-chunk.field-0 w.in-Some.chunk w.in-Some.is
            c.in_ok-chunk.ensures.answers c.loop-p-test.true (omega arith) v.asked)
        | in_default w ↦ rw w.numbers-is
            (asked_so_far-missed c.args.points c.args.wanted (A c.args.pieces.now) (A c.loop-p.pieces)
            (A c.parity.new.self) c.loop-p.numbers.items c.loop-p.p c.in_ok-chunk.field-0
            (ap (is_some {T = List ℕ}) w.in_default.is) c.in_ok-chunk.ensures.answers c.loop-p-test.true (omega arith)
            v.asked)
      ];
      each = elim c.match-branch-4.branch [
        | in-Some+in_ok-push+in_ok-push-2 w ↦ rw
            (w.numbers-is, w.chunks-is, w.in_ok-push.ensures.items, w.in_ok-push-2.ensures.items)
            (are_parities-push stripe c.loop-p.numbers.items c.loop-p.chunks.items c.loop-p.p w.in-Some.chunk
            (let chunk = rw w.in-Some.is at c.in_ok-chunk.ensures.chunk in rw (← v.stripe) chunk) v.each)
        | in_default w ↦ rw (w.numbers-is, w.chunks-is) v.each
      ];
      enough = elim c.match-branch-4.branch [
        | in-Some+in_ok-push+in_ok-push-2 w ↦ rw
            (w.numbers-is, w.in_ok-push.ensures.items, length_push c.loop-p.numbers.items c.loop-p.p) (omega arith)
        | in_default w ↦ rw w.numbers-is v.enough
      ];
      unbroken = c.in_ok-chunk.ensures.failure;
    }
