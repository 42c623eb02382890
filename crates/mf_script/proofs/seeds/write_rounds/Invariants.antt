use Rattle.std.specs.String.{string_bytes}
use Rattle.mf_script.specs.Seeds.{round_lines}
use Rattle.mf_script.proofs.Drawing.{Drawn}
use Rattle.mf_script.proofs.seeds.write_rounds.Given as goal

abbrev pub invariant-loop-round : goal.invariant-loop-round
invariant-loop-round l = Drawn (λ s r. round_lines s) 10 l.fn.draws.state (string_bytes l.fn.out) l._round (string_bytes l.out)
    l.draws.state
