use Rattle.std.proofs.Common.{◌≡◌, take}
use Rattle.std.specs.List.{flat_map}
use Rattle.mf_report.specs.Summary.{changes_of}
use Rattle.mf_report.proofs.summary.changes_of.Given as goal

abbrev pub invariant-loop-command : goal.invariant-loop-command
invariant-loop-command l = l.changes.items ≡ flat_map changes_of (take l.command-index l.done)
