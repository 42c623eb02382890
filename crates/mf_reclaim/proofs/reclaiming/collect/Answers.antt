use Rattle.std.proofs.Common.{◌≡◌, List, length, filter, ap, sym, ◌∙◌, subst, arith}
use Rattle.mf_machine.specs.declared.answer.Closed.{Closed}
use Rattle.mf_vault.proofs.Doing.{then}
use Rattle.mf_reclaim.specs.declared.outcome.ReclaimOutcome.TheVariants as outcome
use Rattle.mf_reclaim.specs.Reclaim.{is_done, pins_from}
use Rattle.mf_reclaim.specs.Collecting.{Discards}
use Rattle.mf_reclaim.proofs.Learning.{collected}
use Rattle.mf_reclaim.proofs.reclaiming.collect.Goals as goal

pub returns-clause-collects : goal.returns-clause-collects
returns-clause-collects g c =
    let is = c.as_slice-answers.ensures.value in
    collected c.close_all.new.answers.items c.close_all.ensures.long c.close_all.ensures.does
    c.close_all.ensures.leaves
    (subst (λ l. Discards l c.discard_all-dropped.result (g.A.Access.actor c.close_all.new.access)
    (g.A.Access.actor c.discard_all-dropped.new.access)) is c.discard_all-dropped.ensures.discards)
    (c.count_done.ensures ∙ ap (λ l. length (filter is_done l)) is)
    (c.new.ensures ∙ (c.push_pins.ensures ∙ ap (pins_from 0) is))
