use Rattle.std.proofs.Common.{flat_map}
use Rattle.std.specs.Fmt.{HasWritten, IsPlainFormatter}
use Rattle.mf_places.specs.Servers.{is_in}
use Rattle.mf_places.specs.Texts.{spaced}
use Rattle.mf_places.proofs.Passing.{passing}
use Rattle.mf_places.proofs.servers.ServersDisplay.fmt.Given as goal

abbrev pub invariant-loop-server : goal.invariant-loop-server
invariant-loop-server g l =
    IsPlainFormatter l.initial.f
    → HasWritten g.W.Write.write_str_gives l.initial.f (flat_map spaced (passing (is_in l.self) l.server-counter)) l.f
