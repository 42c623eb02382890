use Rattle.std.proofs.Common.{subst}
use Rattle.mf_route.specs.Plans.{IsCheapest}
use Rattle.mf_route.proofs.Choosing.{cheapest}
use Rattle.mf_route.proofs.route.Goals as goal

pub returns-in-Ok-Some : goal.returns-in-Ok-Some
returns-in-Ok-Some c =
    let way = c.in-Ok-Some.way in
    subst (λ s. IsCheapest s way.cost way.stages.items) c.in-Ok.ensures
    (cheapest c.in-Ok.terms way.cost way.stages.items
    (rw c.in-Ok-Some.field-0-is at c.in-Ok-Some.ensures))
