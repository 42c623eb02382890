use Rattle.std.proofs.Common.{ℕ, ◌<◌}
use Rattle.mf_machine.specs.Actors.{Shown}
use Rattle.mf_machine.specs.File.{Holds}
use Rattle.mf_gate.specs.Passes.{about, view}
use Rattle.mf_gate.specs.Table.{file_of}
use Rattle.tests_gate.specs.Frames.{Moves}
use Rattle.tests_gate.proofs.stepping.close_all.Given as goal

abbrev pub invariant-loop-g : goal.invariant-loop-g
invariant-loop-g l = record {
  moved : Moves 0 0 l.fn.pass l.pass l.site.gate;
  shown : (h : ℕ) → h < l.g → Holds (file_of (about l.site.gate)) h l.n → Shown h (view l.pass).own;
}
