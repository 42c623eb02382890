use Rattle.std.proofs.Common.{sym, ap, ◌∙◌, ◌+◌, ◌<◌, ◌++◌, ◌∷◌, [], subst, List, map, take, length, arith, ℕ, set}
use Rattle.std.proofs.Common.{get_or}
use Rattle.std.proofs.lemmas.List.{length-map, get_or-map, map-set}
use Rattle.std.proofs.Math.Seq.{map-set_same}
use Rattle.mf_vault.specs.Actor.{Actor}
use Rattle.mf_client.specs.Acts.{names_on}
use Rattle.mf_client.specs.Steps.{HaveRoom, rows}
use Rattle.mf_client.proofs.Losses.{rows_push, lists_more, room_more}
use Rattle.mf_client.proofs.losing.prepared.Goals as goal

pub returns-in_err-names-clause-stays : goal.returns-in_err-names-clause-stays
returns-in_err-names-clause-stays g c =
    map-set_same g.A.Access.actor c.loop-i.accesses c.loop-i.i c.names_in.new.access c.index-accesses-i.result
    c.names_in.ensures.stays ∙ c.loop-i.invariant.same

pub returns-in_err-push-clause-stays : goal.returns-in_err-push-clause-stays
returns-in_err-push-clause-stays g c =
    map-set_same g.A.Access.actor c.loop-i.accesses c.loop-i.i c.names_in.new.access c.index-accesses-i.result
    c.names_in.ensures.stays ∙ c.loop-i.invariant.same

pub loop-i-preserved : goal.loop-i-preserved
loop-i-preserved g c =
    let f = g.A.Access.actor in
    let v = c.loop-i.invariant in
    let xs = c.loop-i.accesses in
    let old = map f c.args.accesses.now in
    let i = c.loop-i.i in
    let d = f c.index-accesses-i.result in
    let lt = c.loop-i-test.true in
    let long = c.loop-i.auto.accesses in
    let low : i < length old = omega (arith, length-map c.args.accesses.now f) in
    let at = get_or-map f xs i c.index-accesses-i.result d (omega arith) in
    let same = ap (λ l. get_or l i d) (sym v.same) ∙ at in
    let items = ap rows c.in_ok-push.ensures.items ∙ rows_push c.loop-i.lists.items c.in_ok-names.names in
    record {
      same = map-set_same f xs i c.names_in.new.access c.index-accesses-i.result c.names_in.ensures.stays ∙ v.same;
      lists = items ∙ lists_more c.args.server i old (rows c.loop-i.lists.items) d c.in_ok-names.names.items v.lists low
          (c.in_ok-names.ensures.names ∙ ap (λ (a : Actor). names_on a.facts c.args.server) (sym same));
      room = subst (λ l. HaveRoom l (take (i + 1) (map g.A.Access.spare (set xs i c.names_in.new.access)))) (sym items)
          (subst (λ (l : List ℕ). HaveRoom (rows c.loop-i.lists.items ++ c.in_ok-names.names.items ∷ [])
          (take (i + 1) l)) (sym (map-set g.A.Access.spare xs i c.names_in.new.access))
          (room_more i (map g.A.Access.spare xs) (rows c.loop-i.lists.items) c.in_ok-names.names.items
          (g.A.Access.spare c.names_in.new.access) v.room (omega (arith, length-map xs g.A.Access.spare))
          c.in_ok-names.ensures.room));
    }
