use Rattle.mf_gate.specs.Rows.{row_at}
use Rattle.mf_gate.proofs.gate.Gate.load.Given as goal

abbrev pub ghosts-load_as : goal.ghosts-load_as
ghosts-load_as a = record { does = row_at a.place.now.me a._deed }
