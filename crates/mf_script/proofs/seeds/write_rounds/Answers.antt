use Rattle.std.specs.String.{string_bytes}
use Rattle.mf_script.specs.Seeds.{round_lines}
use Rattle.mf_script.proofs.Drawing.{none_drawn, one_drawn}
use Rattle.mf_script.proofs.seeds.write_rounds.Goals as goal

pub loop-round-init : goal.loop-round-init
loop-round-init c = none_drawn (λ s r. round_lines s) 10 c.args.draws.now.state (string_bytes c.args.out.now)

pub loop-round-preserved : goal.loop-round-preserved
loop-round-preserved c =
    one_drawn (λ s r. round_lines s) 10 c.args.draws.now.state (string_bytes c.args.out.now) c.loop-round._round
    (string_bytes c.loop-round.out) _
    c.loop-round.draws.state _ c.loop-round.invariant c.in_ok-write_round.ensures.text c.in_ok-write_round.ensures.state
