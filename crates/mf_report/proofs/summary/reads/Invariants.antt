use Rattle.std.proofs.Common.{◌≡◌, ◌≤◌, length, filter, take}
use Rattle.mf_client.specs.declared.done.Done.{Done}
use Rattle.mf_report.specs.Summary.{had_bytes}
use Rattle.mf_report.proofs.summary.reads.Given as goal

abbrev pub invariant-loop-command : goal.invariant-loop-command
invariant-loop-command l =
    (l.count ≡ length (filter (λ (d : Done). had_bytes d.outcome) (take l.command-index l.done)))
    × (l.count ≤ l.command-index)
