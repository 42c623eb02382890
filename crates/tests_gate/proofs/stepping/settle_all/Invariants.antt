use Rattle.std.proofs.Common.{ℕ, ◌<◌}
use Rattle.mf_machine.specs.Actors.{Among}
use Rattle.mf_machine.specs.File.{Holds}
use Rattle.mf_gate.specs.Passes.{about, view}
use Rattle.mf_gate.specs.Table.{file_of}
use Rattle.tests_gate.specs.Frames.{Builds, Moves}
use Rattle.tests_gate.proofs.stepping.settle_all.Given as goal

abbrev pub invariant-loop-n : goal.invariant-loop-n
invariant-loop-n l = record {
  moved : Moves 0 1 l.fn.pass l.pass l.site.gate;
  builds : Builds l.m l.pass l.site.gate;
  settled : (k : ℕ) → k < l.n → Holds (file_of (about l.site.gate)) l.m k → Among k (view l.pass).build.settled;
}
