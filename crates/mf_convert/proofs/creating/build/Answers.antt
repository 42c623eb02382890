use Rattle.std.proofs.Common.{ap, sym, ◌∙◌, subst}
use Rattle.mf_vault.specs.Licence.{Does}
use Rattle.mf_convert.specs.Building.{AreMarked}
use Rattle.mf_convert.specs.Create.{brings, first_names}
use Rattle.mf_convert.proofs.Created.{may_publish_first, built}
use Rattle.mf_convert.proofs.creating.build.Goals as goal

pub bring_all-requires-clause-marked : goal.bring_all-requires-clause-marked
bring_all-requires-clause-marked g c = subst
    (λ l. AreMarked (g.A.Access.actor c.probe_all.new.access) 0 c.as_slice-names.result.now l)
    (sym c.as_slice.ensures.value) c.probe_all.ensures.marked

pub publish-requires : goal.publish-requires
publish-requires g c = may_publish_first c.as_slice-names.result.now c.bring_all.ensures.builder
    (g.met.A.Access.kept c.bring_all.new.access).file
    (c.as_slice-names.ensures.value ∙ c.requires.names ∙ ap first_names (sym c.probe_all.ensures.builder.facts))
    c.bring_all.ensures.settled

pub returns : goal.returns
returns g c = built c.as_slice-names.result.now c.probe_all.new.states.items
    (c.as_slice-names.ensures.value ∙ c.requires.names)
    c.probe_all.ensures.long c.probe_all.ensures.does
    (subst (λ l. Does (brings c.as_slice-names.result.now l) (g.A.Access.actor c.probe_all.new.access)
    (g.A.Access.actor c.bring_all.new.access)) c.as_slice.ensures.value c.bring_all.ensures.does)
    c.publish.ensures.goes c.end.ensures.goes
