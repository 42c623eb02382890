use Rattle.std.proofs.Common.{◌-◌, ◌≡◌, ◌≤◌, None, length}
use Rattle.mf_decode.specs.Fronts.{AreParities}
use Rattle.mf_decode.proofs.Orders.{AskedSoFar}
use Rattle.mf_decode.proofs.asking.ask_parities.Given as goal

abbrev pub invariant-loop-p : goal.invariant-loop-p
invariant-loop-p g l = record {
  stripe : g.P.Pieces.stripe l.pieces ≡ g.P.Pieces.stripe l.fn.pieces;
  made : g.P.Pieces.made l.pieces ≡ g.P.Pieces.made l.fn.pieces;
  asked : AskedSoFar l.points l.wanted (g.P.Pieces.answers l.fn.pieces) (g.P.Pieces.answers l.pieces) l.numbers.items
      l.p;
  each : AreParities (g.P.Pieces.stripe l.fn.pieces) l.numbers.items l.chunks.items;
  enough : length l.numbers.items ≤ l.wanted;
  unbroken : g.P.Pieces.failure l.pieces ≡ None;
}

abbrev pub decreases-loop-p : goal.decreases-loop-p
decreases-loop-p g l = l.points - l.p
