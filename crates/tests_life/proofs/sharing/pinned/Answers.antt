use Rattle.std.proofs.Common.{ap, ◌∙◌}
use Rattle.mf_machine.specs.declared.answer.Slot.TheVariants.{Work}
use Rattle.mf_vault.specs.Actor.{Actor}
use Rattle.mf_vault.proofs.Entering.{tried_right}
use Rattle.tests_life.proofs.sharing.pinned.Goals as goal

pub returns : goal.returns
returns g c = let a = g.A.Access.actor c.args.access.now in let goes = c.pin.ensures.goes in
    ap (λ (z : Actor). z.view.build.right) goes.1.becomes
    ∙ (tried_right a.facts Work goes.0 c.pin.result a.view ∙ c.requires.right)
