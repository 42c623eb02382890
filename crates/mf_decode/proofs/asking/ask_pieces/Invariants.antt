use Rattle.std.proofs.Common.{◌≡◌, ◌++◌, None, length, map, is_some}
use Rattle.mf_decode.specs.Answers.{pieces_from}
use Rattle.mf_decode.specs.Fronts.{ArePieces}
use Rattle.mf_decode.proofs.asking.ask_pieces.Given as goal

abbrev pub invariant-loop-t : goal.invariant-loop-t
invariant-loop-t g l = record {
  stripe : g.P.Pieces.stripe l.pieces ≡ g.P.Pieces.stripe l.fn.pieces;
  made : g.P.Pieces.made l.pieces ≡ g.P.Pieces.made l.fn.pieces;
  answers : g.P.Pieces.answers l.pieces ≡ g.P.Pieces.answers l.fn.pieces ++ pieces_from 0 (map is_some l.found.items);
  count : length l.found.items ≡ l.t;
  each : ArePieces (g.P.Pieces.stripe l.fn.pieces) l.found.items;
  unbroken : g.P.Pieces.failure l.pieces ≡ None;
}
