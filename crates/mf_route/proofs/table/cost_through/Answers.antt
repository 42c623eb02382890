use Rattle.std.proofs.Common.{◌≡◌, ◌+◌, ◌<◌, Some, None, length, get_or, refl, sym, ap}
use Rattle.std.proofs.Common.{◌∙◌, arith, rules}
use Rattle.std.proofs.lemmas.List.{get_or_read_under}
use Rattle.mf_route.specs.Plans.{IsChange, candidate, leg}
use Rattle.mf_route.proofs.Costs.{entry_small}
use Rattle.mf_route.proofs.table.cost_through.Goals as goal

pub overflow_add-result : goal.overflow_add-result
overflow_add-result c =
    let s = c.args.terms.now in
    let way = c.in-Some.way in
    let ways = c.args.table.now.ways.items in
    let within : c.args.j < length ways = omega (arith, c.requires.second, c.requires.table.size) in
    let is : get_or ways c.args.j None ≡ Some way =
    sym (get_or_read_under ways c.args.j (length ways) c.index.result.now None c.index.ensures
    within refl)
    ∙ c.in-Some.is in
    let small = entry_small s c.candidate-a.ensures.kept c.args.table.now c.args.j c.requires.table
    c.requires.second c.requires.most way is in
    omega (arith, small, c.leg.ensures.small)

pub returns-clause-some : goal.returns-clause-some
returns-clause-some c =
    let s = c.args.terms.now in
    let way = c.in-Some.way in
    let ways = c.args.table.now.ways.items in
    let within : c.args.j < length ways = omega (arith, c.requires.second, c.requires.table.size) in
    let is : get_or ways c.args.j None ≡ Some way =
    sym (get_or_read_under ways c.args.j (length ways) c.index.result.now None c.index.ensures
    within refl)
    ∙ c.in-Some.is in
    let change : IsChange (candidate s c.args.i) (candidate s c.args.j) = search rules in
    let costs : c.leg.result ≡ leg s (candidate s c.args.i) (candidate s c.args.j) = search rules in
    (change, (way, is, ap (λ n. n + way.cost) costs))
