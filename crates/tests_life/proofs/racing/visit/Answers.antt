use Rattle.std.proofs.Common.{List, ℕ, subst, sym}
use Rattle.mf_shared.specs.Shared.{facts_in}
use Rattle.tests_life.specs.Turns.{IsTried}
use Rattle.tests_life.proofs.Visited.{seat_able, stays_visited}
use Rattle.tests_life.proofs.racing.visit.Goals as goal

pub act-went-requires : goal.act-went-requires
act-went-requires g c = let race = c.args.race.now in
    seat_able race.family c.deref.result.now race.shared c.args.seat _ c.new-access.ensures
    (subst (λ (v : List ℕ). IsTried race.family v (facts_in race.shared)) (sym c.deref.ensures.value) race.tried)

pub returns : goal.returns
returns g c =
    stays_visited c.new-access.ensures c.act-went.ensures c.finish-after.ensures.of c.finish-after.ensures.view
