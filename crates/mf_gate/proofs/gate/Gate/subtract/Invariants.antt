use Rattle.mf_gate.specs.Rows.{row_at}
use Rattle.mf_gate.proofs.gate.Gate.subtract.Given as goal

abbrev pub ghosts-subtract_as : goal.ghosts-subtract_as
ghosts-subtract_as a = record { does = row_at a.place.now.me a._deed }
