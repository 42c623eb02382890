use Rattle.std.specs.String.{string_bytes}
use Rattle.mf_script.specs.Seeds.{client_lines}
use Rattle.mf_script.proofs.Drawing.{none_drawn, one_drawn}
use Rattle.mf_script.proofs.seeds.write_clients.Goals as goal

pub loop-client-init : goal.loop-client-init
loop-client-init c = none_drawn client_lines 2 c.args.draws.now.state (string_bytes c.args.out.now)

pub loop-client-preserved : goal.loop-client-preserved
loop-client-preserved c =
    one_drawn client_lines 2 c.args.draws.now.state (string_bytes c.args.out.now) c.loop-client.client (string_bytes c.loop-client.out) _
    c.loop-client.draws.state _ c.loop-client.invariant c.in_ok-write_client.ensures.text
    c.in_ok-write_client.ensures.state
