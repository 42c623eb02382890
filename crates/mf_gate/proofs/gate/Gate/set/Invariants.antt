use Rattle.mf_gate.specs.Rows.{row_at}
use Rattle.mf_gate.proofs.gate.Gate.set.Given as goal

abbrev pub ghosts-set_as : goal.ghosts-set_as
ghosts-set_as a = record { does = row_at a.place.now.me a._deed }
