use Rattle.tests_gate.proofs.Shares.{rejoined}
use Rattle.tests_gate.proofs.passes.+split_and_join.Goals as goal

pub returns : goal.returns
returns t c = rejoined c.args.pass.now c.split-next.new.pass c.split-next.result c.split_and_join.new.pass
    c.rejoin.new.pass c.args.gate.now c.split-next.ensures.old c.split-next.ensures.new c.split_and_join.ensures
    c.rejoin.ensures.placed c.rejoin.ensures.share
