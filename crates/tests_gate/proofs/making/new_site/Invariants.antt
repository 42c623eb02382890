use Rattle.std.proofs.Common.{[], ◌∷◌}
use Rattle.tests_gate.proofs.making.new_site.Given as goal

abbrev pub ghost-pick : goal.ghost-pick
ghost-pick a = 97 ∷ 98 ∷ []
