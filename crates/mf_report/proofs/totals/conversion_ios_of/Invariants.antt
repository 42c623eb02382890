use Rattle.std.proofs.Common.{◌≡◌, take, map}
use Rattle.mf_client.specs.declared.done.Done.{Done}
use Rattle.mf_report.specs.Report.{conversions}
use Rattle.mf_report.proofs.totals.conversion_ios_of.Given as goal

abbrev pub invariant-loop-done : goal.invariant-loop-done
invariant-loop-done l = l.ios.items ≡ map (λ (d : Done). d.io) (conversions (take l.done-index l.commands))
