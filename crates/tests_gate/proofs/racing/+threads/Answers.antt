use Rattle.std.proofs.lemmas.Result.{IfOk-at_ok}
use Rattle.tests_gate.specs.Frames.{Moves}
use Rattle.tests_gate.proofs.Shares.{joined_again, placed_on}
use Rattle.tests_gate.proofs.racing.+threads.Goals as goal

pub join-requires-clause-first : goal.join-requires-clause-first
join-requires-clause-first g t c = placed_on (IfOk-at_ok (λ side. Moves 0 0 c.split-other.new.pass side.pass
    c.args.race.now.site.gate) c.in_ok-first.was c.join-first.ensures.first)

pub join-requires-clause-second : goal.join-requires-clause-second
join-requires-clause-second g t c = placed_on (IfOk-at_ok (λ side. Moves 0 0 c.split-other.result side.pass
    c.args.race.now.site.gate) c.in_ok-second.was c.join-first.ensures.second)

pub returns : goal.returns
returns g t c =
    joined_again c.args.pass c.split-other.new.pass c.split-other.result _ _ c.join.result.pass
    c.args.race.now.site.gate c.split-other.ensures.old c.split-other.ensures.new
    (IfOk-at_ok (λ side. Moves 0 0 c.split-other.new.pass side.pass c.args.race.now.site.gate) c.in_ok-first.was
    c.join-first.ensures.first)
    (IfOk-at_ok (λ side. Moves 0 0 c.split-other.result side.pass c.args.race.now.site.gate) c.in_ok-second.was
    c.join-first.ensures.second) c.join.ensures.placed c.join.ensures.share
