use Rattle.mf_read.proofs.gathering.gather_with.Given as goal

abbrev pub ghosts-gather_from : goal.ghosts-gather_from
ghosts-gather_from g a = record { start = g.A.Access.actor a.access.now }
