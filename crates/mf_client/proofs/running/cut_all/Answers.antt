use Rattle.std.proofs.Common.{sym, ap, ◌∙◌, map, arith}
use Rattle.std.proofs.lemmas.List.{length-map, get_or-map, map-set}
use Rattle.mf_vault.specs.Actor.{did, cut_off}
use Rattle.mf_client.proofs.Halves.{cut_more}
use Rattle.mf_client.proofs.running.cut_all.Goals as goal

pub loop-i-preserved : goal.loop-i-preserved
loop-i-preserved g c =
    let f = g.A.Access.actor in
    let xs = c.loop-i.accesses in
    let d = f c.index-accesses-i.result in
    let lt = c.loop-i-test.true in
    let long = c.loop-i.auto.accesses in
    let e = length-map c.args.accesses.now f in
    map-set f xs c.loop-i.i c.cut_off.new.self
    ∙ cut_more c.args.away (map f c.args.accesses.now) (map f xs) c.loop-i.i d (f c.cut_off.new.self)
    c.loop-i.invariant (omega arith)
    (c.cut_off.ensures.goes.becomes
    ∙ ap (did (cut_off c.args.away)) (sym (get_or-map f xs c.loop-i.i c.index-accesses-i.result d (omega arith))))
