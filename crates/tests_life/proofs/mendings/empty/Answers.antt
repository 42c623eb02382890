use Rattle.std.proofs.Common.{◌≡◌, filter, ap, sym, ◌∙◌}
use Rattle.mf_places.specs.declared.Name.TheVariants.{Data}
use Rattle.mf_places.specs.Facts.{BookFacts}
use Rattle.mf_places.specs.Names.{all_names}
use Rattle.mf_places.specs.Placement.{is_on}
use Rattle.mf_vault.specs.Actor.{Actor}
use Rattle.tests_life.proofs.Phases.{may_lose}
use Rattle.tests_life.proofs.mendings.empty.Goals as goal

pub lose-requires-clause-may : goal.lose-requires-clause-may
lose-requires-clause-may g c =
    may_lose (g.A.Access.actor c.reserve.new.self) (g.A.Access.actor c.args.access.now).facts c.args.line c.args.server
    c.as_slice-name-items.result.now
    c.loop-name.name-index (Data 0)
    (ap (λ (a : Actor). a.facts) c.reserve.ensures.stays ∙ c.loop-name.invariant)
    (c.as_slice-name-items.ensures.value ∙ (c.in_ok-names.ensures.sublist
    ∙ ap (λ (b : BookFacts). filter (is_on b c.args.server) (all_names b)) c.book.ensures))
    c.requires c.loop-name-test.true
