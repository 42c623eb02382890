use Rattle.mf_gate.specs.Rows.{row_at}
use Rattle.mf_gate.proofs.gate.Gate.add.Given as goal

abbrev pub ghosts-add_as : goal.ghosts-add_as
ghosts-add_as a = record { does = row_at a.place.now.me a._deed }
