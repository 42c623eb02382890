use Rattle.std.proofs.Common.{◌≡◌, ◌≤◌, length, filter, take}
use Rattle.mf_reclaim.specs.Reclaim.{is_done}
use Rattle.mf_reclaim.proofs.reclaiming.count_done.Given as goal

abbrev pub invariant-loop-answer : goal.invariant-loop-answer
invariant-loop-answer l = record {
  value : l.done ≡ length (filter is_done (take l.answer-index l.answers));
  few : l.done ≤ l.answer-index;
}
