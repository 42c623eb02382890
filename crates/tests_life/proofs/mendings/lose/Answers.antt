use Rattle.std.proofs.Common.{◌≡◌, ap, sym, ◌∙◌, subst}
use Rattle.mf_vault.specs.Actor.{Actor}
use Rattle.tests_life.specs.Mendings.{HasLine}
use Rattle.tests_life.proofs.Phases.{pushed_line}
use Rattle.tests_life.proofs.mendings.lose.Goals as goal

pub empty-requires : goal.empty-requires
empty-requires c = subst (λ l. HasLine l c.args.line c.args.server)
    (sym (ap (λ (a : Actor). a.facts.losses) c.new-access.ensures ∙ c.in_ok-push.ensures.added))
    (pushed_line c.args.losses.now c.args.line c.args.server)
