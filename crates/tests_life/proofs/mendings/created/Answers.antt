use Rattle.std.proofs.Common.{◌≡◌, ap, ◌∙◌}
use Rattle.mf_vault.specs.Actor.{Actor}
use Rattle.mf_vault.specs.Facts.{Facts}
use Rattle.mf_vault.proofs.Doing.{facts_stay}
use Rattle.tests_life.proofs.mendings.created.Goals as goal

pub returns : goal.returns
returns c =
    let stays = facts_stay c.create.ensures.licence.does ∙ ap (λ (a : Actor). a.facts) c.new-access.ensures in record {
      book = c.rest.ensures.book ∙ ap (λ (f : Facts). f.book) stays;
      bytes = c.rest.ensures.bytes ∙ (ap (λ (f : Facts). f.bytes) stays ∙ c.requires.file.bytes);
      losses = c.rest.ensures.losses ∙ ap (λ (f : Facts). f.losses) stays;
    }
