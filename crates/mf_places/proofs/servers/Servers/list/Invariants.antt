use Rattle.std.proofs.Common.{◌≡◌}
use Rattle.mf_places.specs.Servers.{is_in}
use Rattle.mf_places.proofs.Passing.{passing}
use Rattle.mf_places.proofs.servers.Servers.list.Given as goal

abbrev pub invariant-loop-server : goal.invariant-loop-server
invariant-loop-server l = l.servers.items ≡ passing (is_in l.self) l.server
