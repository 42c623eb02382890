use Rattle.std.proofs.Common.{◌≡◌, take, fold}
use Rattle.mf_places.specs.Servers.{no_servers, with_server}
use Rattle.mf_places.proofs.servers.Servers.of.Given as goal

abbrev pub invariant-loop-server : goal.invariant-loop-server
invariant-loop-server l = l.set ≡ fold with_server no_servers (take l.server-index l.servers)
