use Rattle.std.proofs.Common.{◌≡◌, ◌≤◌, ◌*◌, ◌^◌, take}
use Rattle.std.specs.List.{sum_by}
use Rattle.mf_client.specs.declared.done.Done.{Done}
use Rattle.mf_report.specs.Summary.{restored_by}
use Rattle.mf_report.proofs.summary.repairs.Given as goal

abbrev pub invariant-loop-command : goal.invariant-loop-command
invariant-loop-command l =
    (l.sum ≡ sum_by (λ (d : Done). restored_by d.outcome) (take l.command-index l.done))
    × (l.sum ≤ 2 ^ 32 * l.command-index)
