use Rattle.std.proofs.Common.{◌≡◌, ◌-◌, rules}
use Rattle.mf_route.specs.Plans.{candidate}
use Rattle.mf_route.proofs.Ways.{plan_at}
use Rattle.mf_route.proofs.plans.plan_from.Goals as goal

pub returns : goal.returns
returns c =
    let s = c.args.terms.now in
    let full = c.in_ok-table.ensures in
    let wide : c.in_ok-table.table.room ≡ s.servers - (candidate s c.args.i).parities =
    search rules in
    let begins : (candidate s c.args.i).from ≡ 0 = search rules in
    plan_at s c.candidate-first.ensures.kept c.args.i c.requires begins c.in_ok-table.table full.2
    full.0 wide c.swap_remove.result c.swap_remove.ensures.value
