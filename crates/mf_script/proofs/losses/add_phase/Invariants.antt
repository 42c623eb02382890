use Rattle.std.proofs.Common.{◌≡◌, ◌++◌, take}
use Rattle.std.specs.List.{flat_map}
use Rattle.mf_script.specs.Losses.{client_losses}
use Rattle.mf_script.proofs.losses.add_phase.Given as goal

abbrev pub invariant-loop-client : goal.invariant-loop-client
invariant-loop-client l = l.losses ≡ l.fn.losses ++ flat_map client_losses (take l.client-index l.clients)
