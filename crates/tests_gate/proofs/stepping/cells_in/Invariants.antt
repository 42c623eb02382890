use Rattle.std.proofs.Common.{◌≡◌, ◌+◌, length}
use Rattle.tests_gate.specs.Frames.{AreCells, Moves}
use Rattle.tests_gate.proofs.stepping.cells_in.Given as goal

abbrev pub invariant-loop-n : goal.invariant-loop-n
invariant-loop-n l = record {
  moved : Moves (l.g + 1) 0 l.fn.pass l.pass l.site.gate;
  many : length l.cells.items ≡ l.n;
  cells : AreCells l.cells.items l.site.gate;
}
