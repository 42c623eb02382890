use Rattle.std.proofs.Common.{◌∙◌}
use Rattle.mf_report.proofs.Sums.{done_fit}
use Rattle.mf_report.proofs.totals.took.Goals as goal

pub total-requires : goal.total-requires
total-requires c =
    done_fit c.args.commands.now c.deref.result.now (c.deref.ensures.value ∙ c.in_ok-ios.ensures)
    c.requires.few c.requires.small
