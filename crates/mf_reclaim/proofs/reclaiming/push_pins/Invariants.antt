use Rattle.std.proofs.Common.{◌≡◌, ◌≤◌, length, take, vec_capacity}
use Rattle.mf_reclaim.specs.Reclaim.{pins_from}
use Rattle.mf_reclaim.proofs.reclaiming.push_pins.Given as goal

abbrev pub invariant-loop-answer : goal.invariant-loop-answer
invariant-loop-answer l = record {
  value : l.pinned.items ≡ pins_from 0 (take l.answer-index l.answers);
  place : l.g ≡ l.answer-index;
  few : length l.pinned.items ≤ l.answer-index;
  room : length l.answers ≤ vec_capacity l.pinned;
}
