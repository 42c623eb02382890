use Rattle.std.proofs.Common.{◌≡◌, ◌≤◌, ◌-◌, ◌++◌, length, map, drop}
use Rattle.mf_erasure.specs.Erasure.{others_from}
use Rattle.mf_check.proofs.sets.list_kept.Given as goal

abbrev pub invariant-loop-p : goal.invariant-loop-p
invariant-loop-p l = record {
  from_first : l.first ≤ l.next;
  within : l.next ≤ length l.places;
  rest : l.kept.items ++ others_from l.p (l.count - l.p) (map (λ place. place - l.width) (drop l.next l.places))
      ≡ others_from 0 l.count (map (λ place. place - l.width) (drop l.first l.places));
}
