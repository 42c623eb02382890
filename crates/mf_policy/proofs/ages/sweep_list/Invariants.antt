use Rattle.std.proofs.Common.{◌≡◌, map, filter, not, eqb, ℕ}
use Rattle.std.specs.List.{range_with_len}
use Rattle.mf_policy.specs.Due.{due_file, policies_of}
use Rattle.mf_policy.proofs.ages.sweep_list.Given as goal

abbrev pub invariant-loop-file : goal.invariant-loop-file
invariant-loop-file l =
    l.list.items
    ≡ filter (λ (due : ℕ × ℕ). not (eqb due.1 0))
    (map (due_file (policies_of l.policies l.of) l.ages) (range_with_len 0 l.file))
