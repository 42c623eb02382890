use Rattle.std.proofs.Common.{◌≡◌, ◌∷◌, None, refl, rules}
use Rattle.mf_route.specs.Tables.{behind}
use Rattle.mf_route.proofs.Ways.{tried_all, tried_some}
use Rattle.mf_route.proofs.table.entry.Goals as goal

pub returns-in_default : goal.returns-in_default
returns-in_default c =
    tried_all c.args.terms.now c.args.table.now c.args.i None None refl c.in_default.ensures

pub returns : goal.returns
returns c =
    let s = c.args.terms.now in
    let t = c.args.table.now in
    let i = c.args.i in
    let choice = c.in-Some.choice in
    let is : c.extend_from_slice.new.self.items ≡ i ∷ behind t choice.next = search rules in
    tried_some s t i choice c.extend_from_slice.new.self.items is c.in-Some.ensures
