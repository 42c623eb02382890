use Rattle.std.proofs.Common.{[]}
use Rattle.mf_gate.specs.Resting.{about_of}
use Rattle.mf_gate.proofs.ends.known_of.Given as goal

abbrev pub ghost-pick : goal.ghost-pick
ghost-pick a = about_of a.from.now.0.now a.from.now.1.now.value [] 0 [] []

abbrev pub ghost-pick-2 : goal.ghost-pick-2
ghost-pick-2 a = record a.from.now.0.now.value { losses = a.from.now.1.now }

abbrev pub ghost-pick-3 : goal.ghost-pick-3
ghost-pick-3 a = record a.from.now.0.now.value { number = a.from.now.1; closed = a.from.now.2.now }

abbrev pub ghost-pick-4 : goal.ghost-pick-4
ghost-pick-4 a = record a.from.now.0.now.value { names = a.from.now.1.now }
