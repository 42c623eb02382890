use Rattle.std.proofs.Common.{◌≡◌, take}
use Rattle.mf_report.specs.Counts.{total_io}
use Rattle.mf_report.proofs.counts.total.Given as goal

abbrev pub invariant-loop-io : goal.invariant-loop-io
invariant-loop-io l = l.sum ≡ total_io (take l.io-index l.ios)
