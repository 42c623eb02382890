use Rattle.std.proofs.Common.{sym, ap, ◌∙◌, map, arith}
use Rattle.std.proofs.lemmas.List.{length-map, get_or-map}
use Rattle.mf_vault.specs.Actor.{Actor}
use Rattle.mf_vault.specs.Facts.{age}
use Rattle.mf_client.proofs.Dues.{ages_more}
use Rattle.mf_client.proofs.sweeping.ages_of.Goals as goal

pub loop-access-preserved : goal.loop-access-preserved
loop-access-preserved g c =
    let f = g.A.Access.actor in
    let xs = c.args.accesses.now in
    let i = c.loop-access.access-index in
    let x = c.access-item.result in
    let lt = c.loop-access-test.true in
    let long = length-map xs f in
    ages_more (map f xs) i (f x) c.loop-access.ages.items c.push.new.self.items c.age.result c.loop-access.invariant
    (omega arith) c.in_ok-push.ensures.items
    (c.age.ensures ∙ ap (λ (a : Actor). age a.facts) (ap f c.access-item.is
    ∙ sym (get_or-map f xs i x (f x) (omega arith))))
