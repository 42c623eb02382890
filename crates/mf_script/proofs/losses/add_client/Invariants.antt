use Rattle.std.proofs.Common.{◌≡◌, ◌++◌, take}
use Rattle.std.specs.List.{flat_map}
use Rattle.mf_lines.specs.declared.parts.Command.{Command}
use Rattle.mf_script.specs.Losses.{lost_by}
use Rattle.mf_script.proofs.losses.add_client.Given as goal

abbrev pub invariant-loop-command : goal.invariant-loop-command
invariant-loop-command l =
    l.losses ≡ l.fn.losses ++ flat_map (λ (c : Command). lost_by c.line c.act) (take l.command-index l.command-items)
