use Rattle.std.proofs.Common.{◌+◌, length, ap, ◌∙◌, arith}
use Rattle.std.proofs.lemmas.List.{length_push}
use Rattle.mf_reclaim.proofs.Closings.{closed_more, shown_more, seen_closed, leaves_closed, may_close, shown_none}
use Rattle.mf_reclaim.proofs.Closings.{leaves_nothing}
use Rattle.mf_reclaim.proofs.reclaiming.close_all.Goals as goal

pub loop-g-preserved : goal.loop-g-preserved
loop-g-preserved g c =
    let v = c.loop-g.invariant in
    let room = v.room in
    let spare = c.close-answer.ensures.spare in
    let capacity = v.capacity in
    let grown = c.append.ensures.capacity in
    let more = length_push c.loop-g.answers.items c.close-answer.result in
    record {
      does = closed_more c.loop-g.answers.items v.does v.long c.append.ensures.items c.close-answer.ensures.goes;
      long = ap length c.append.ensures.items ∙ (more ∙ ap (λ n. n + 1) v.long);
      shown = shown_more c.loop-g.answers.items v.shown v.long c.append.ensures.items c.close-answer.ensures.goes;
      seen = seen_closed v.seen c.close-answer.ensures.goes;
      leaves = leaves_closed v.leaves c.close-answer.ensures.goes;
      capacity = omega arith;
      room = omega arith;
    }
