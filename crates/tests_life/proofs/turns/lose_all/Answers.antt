use Rattle.std.proofs.Common.{ap, filter, ◌∙◌}
use Rattle.mf_places.specs.declared.Name.TheVariants.{Data}
use Rattle.mf_places.specs.Facts.{BookFacts}
use Rattle.mf_places.specs.Names.{all_names}
use Rattle.mf_places.specs.Placement.{is_on}
use Rattle.tests_life.proofs.Phases.{may_lose}
use Rattle.tests_life.proofs.turns.lose_all.Goals as goal

pub lose_one-requires-clause-may : goal.lose_one-requires-clause-may
lose_one-requires-clause-may g c =
    may_lose (g.A.Access.actor c.loop-name.access) (g.A.Access.actor c.args.access.now).facts 11 0
    c.as_slice-name-items.result.now c.loop-name.name-index (Data 0) c.loop-name.invariant.facts
    (c.as_slice-name-items.ensures.value ∙ (c.in_ok-names.ensures.sublist
    ∙ ap (λ (b : BookFacts). filter (is_on b 0) (all_names b)) c.book.ensures))
    c.requires.line c.loop-name-test.true
