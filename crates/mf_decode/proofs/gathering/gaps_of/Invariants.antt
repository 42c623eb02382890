use Rattle.std.proofs.Common.{◌≡◌, take}
use Rattle.mf_decode.specs.Decoding.{gaps_from}
use Rattle.mf_decode.proofs.gathering.gaps_of.Given as goal

abbrev pub invariant-loop-t : goal.invariant-loop-t
invariant-loop-t l = l.erased.items ≡ gaps_from 0 (take l.t l.found)
