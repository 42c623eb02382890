use Rattle.std.proofs.Common.{◌∙◌}
use Rattle.mf_report.proofs.Sums.{conversions_fit}
use Rattle.mf_report.proofs.totals.conversions_took.Goals as goal

pub total-requires : goal.total-requires
total-requires c =
    conversions_fit c.args.commands.now c.deref.result.now (c.deref.ensures.value ∙ c.in_ok-ios.ensures)
    c.requires.few c.requires.small
