use Rattle.tests_gate.proofs.Shares.{joined_again}
use Rattle.tests_gate.proofs.passes.closings_beside.Goals as goal

pub returns : goal.returns
returns c = joined_again c.args.pass.now c.split-second.new.pass c.split-second.result c.closings-told.new.first
    c.closings-told.new.second c.rejoin.new.pass c.args.site.now.gate c.split-second.ensures.old
    c.split-second.ensures.new c.closings-told.ensures.first c.closings-told.ensures.second
    c.rejoin.ensures.placed c.rejoin.ensures.share
