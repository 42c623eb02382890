use Rattle.mf_gate.specs.Rows.{row_at}
use Rattle.mf_gate.proofs.gate.Gate.change.Given as goal

abbrev pub ghosts-change_as : goal.ghosts-change_as
ghosts-change_as a = record { does = row_at a.place.now.me a._deed }
