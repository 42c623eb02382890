use Rattle.std.proofs.Common.{◌≡◌, ap, ◌∙◌}
use Rattle.mf_vault.specs.Actor.{Actor}
use Rattle.mf_vault.specs.Facts.{Facts}
use Rattle.mf_vault.proofs.Doing.{facts_stay}
use Rattle.tests_life.proofs.mendings.removed.Goals as goal

pub returns : goal.returns
returns c = c.rest.ensures.losses ∙ ap (λ (f : Facts). f.losses)
    (facts_stay c.remove.ensures.licence.does ∙ ap (λ (a : Actor). a.facts) c.new-access.ensures)
