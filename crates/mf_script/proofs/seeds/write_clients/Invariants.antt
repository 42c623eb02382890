use Rattle.std.specs.String.{string_bytes}
use Rattle.mf_script.specs.Seeds.{client_lines}
use Rattle.mf_script.proofs.Drawing.{Drawn}
use Rattle.mf_script.proofs.seeds.write_clients.Given as goal

abbrev pub invariant-loop-client : goal.invariant-loop-client
invariant-loop-client l = Drawn client_lines 2 l.fn.draws.state (string_bytes l.fn.out) l.client (string_bytes l.out) l.draws.state
