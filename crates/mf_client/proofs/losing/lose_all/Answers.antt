use Rattle.std.proofs.Common.{sym, ap, ◌∙◌, ◌≡◌, ◌+◌, suc, subst, List, map, take, drop, length, arith, ℕ, get_or, []}
use Rattle.std.proofs.Common.{◌++◌}
use Rattle.std.proofs.lemmas.List.{length-map, get_or-map, map-set, drop-set-lt}
use Rattle.mf_vault.specs.Actor.{Actor}
use Rattle.mf_client.specs.Acts.{LosesIn, LosesAll}
use Rattle.mf_client.specs.Steps.{AreLosable, AllLosable, HaveRoom, rows}
use Rattle.mf_client.proofs.Losses.{losable_at, room_at, lost_more, lost_none, lost_low}
use Rattle.mf_client.proofs.losing.lose_all.Goals as goal

pub bounds-lists-i : goal.bounds-lists-i
bounds-lists-i g c =
    let f = g.A.Access.actor in
    let lt = c.loop-i-test.true in
    let long = c.loop-i.auto.accesses in
    let e = length-map c.loop-i.accesses f in
    let r = losable_at c.args.line c.loop-i.i (rows c.args.lists.now) (map f c.loop-i.accesses) []
    (f c.index-accesses-i.result) c.loop-i.invariant.may (omega arith) in
    let low = r.0 in
    omega (arith, length-map c.args.lists.now (λ v. v.items))

pub lose_names-count-requires-clause-may : goal.lose_names-count-requires-clause-may
lose_names-count-requires-clause-may g c =
    let f = g.A.Access.actor in
    let lt = c.loop-i-test.true in
    let long = c.loop-i.auto.accesses in
    let e = length-map c.loop-i.accesses f in
    let d = f c.index-accesses-i.result in
    let r = losable_at c.args.line c.loop-i.i (rows c.args.lists.now) (map f c.loop-i.accesses) []
    d c.loop-i.invariant.may (omega arith) in
    let low = r.0 in
    let names = get_or-map (λ v. v.items) c.args.lists.now c.loop-i.i c.index-lists-i.result [] (omega (
      arith,
      length-map c.args.lists.now (λ v. v.items),
    )) ∙ ap (λ v. v.items) (sym c.index-lists-i.is) ∙ sym c.as_slice.ensures.value in
    subst (λ l. AreLosable c.args.line l (f (get_or c.loop-i.accesses c.loop-i.i c.index-accesses-i.result))) names
    (subst (λ (a : Actor). AreLosable c.args.line (get_or (rows c.args.lists.now) c.loop-i.i []) a)
    (get_or-map f c.loop-i.accesses c.loop-i.i c.index-accesses-i.result d (omega arith)) r.1)

pub lose_names-count-requires-clause-room : goal.lose_names-count-requires-clause-room
lose_names-count-requires-clause-room g c =
    let f = g.A.Access.actor in
    let s = g.A.Access.spare in
    let lt = c.loop-i-test.true in
    let long = c.loop-i.auto.accesses in
    let e = length-map c.loop-i.accesses f in
    let h = length-map c.loop-i.accesses s in
    let r = losable_at c.args.line c.loop-i.i (rows c.args.lists.now) (map f c.loop-i.accesses) []
    (f c.index-accesses-i.result) c.loop-i.invariant.may (omega arith) in
    let low = r.0 in
    let q = room_at c.loop-i.i (rows c.args.lists.now) (map s c.loop-i.accesses) [] (s c.index-accesses-i.result)
    c.loop-i.invariant.room low (omega arith) in
    let few = q.0 in
    let names = get_or-map (λ v. v.items) c.args.lists.now c.loop-i.i c.index-lists-i.result [] (omega (
      arith,
      length-map c.args.lists.now (λ v. v.items),
    )) ∙ ap (λ v. v.items) (sym c.index-lists-i.is) ∙ sym c.as_slice.ensures.value in
    let at = get_or-map s c.loop-i.accesses c.loop-i.i c.index-accesses-i.result (s c.index-accesses-i.result)
    (omega arith) in
    let n = ap length names in omega arith

pub overflow_add-count : goal.overflow_add-count
overflow_add-count g c =
    let f = g.A.Access.actor in
    let low = c.loop-i.invariant.low in
    let few = c.requires.few in
    let lt = c.loop-i-test.true in
    let long = c.loop-i.auto.accesses in
    let e = length-map c.loop-i.accesses f in
    let r = losable_at c.args.line c.loop-i.i (rows c.args.lists.now) (map f c.loop-i.accesses) []
    (f c.index-accesses-i.result) c.loop-i.invariant.may (omega arith) in
    let short = r.0 in
    let most = r.1.1 in
    let names = get_or-map (λ v. v.items) c.args.lists.now c.loop-i.i c.index-lists-i.result [] (omega (
      arith,
      length-map c.args.lists.now (λ v. v.items),
    )) ∙ ap (λ v. v.items) (sym c.index-lists-i.is) ∙ sym c.as_slice.ensures.value in
    let same = ap length names in
    let k = lost_low c.lose_names-count.ensures in omega arith

pub loop-i-preserved : goal.loop-i-preserved
loop-i-preserved g c =
    let f = g.A.Access.actor in
    let s = g.A.Access.spare in
    let v = c.loop-i.invariant in
    let xs = c.loop-i.accesses in
    let i = c.loop-i.i in
    let y = c.lose_names-count.new.access in
    let lt = c.loop-i-test.true in
    let long = c.loop-i.auto.accesses in
    let e = length-map xs f in
    let h = length-map xs s in
    let d = f c.index-accesses-i.result in
    let lists = rows c.args.lists.now in
    let r = losable_at c.args.line i lists (map f xs) [] d v.may (omega arith) in
    let low = r.0 in
    let q = room_at i lists (map s xs) [] (s c.index-accesses-i.result) v.room low (omega arith) in
    let next : suc i ≡ i + 1 = omega arith in
    let names = get_or-map (λ v. v.items) c.args.lists.now i c.index-lists-i.result [] (omega (
      arith,
      length-map c.args.lists.now (λ v. v.items),
    )) ∙ ap (λ v. v.items) (sym c.index-lists-i.is) ∙ sym c.as_slice.ensures.value in
    let at = get_or-map f xs i c.index-accesses-i.result d (omega arith) in
    let one : LosesIn c.args.line (get_or lists i []) c.lose_names-count.result (get_or (map f xs) i d) (f y) =
    subst (λ (a : Actor). LosesIn c.args.line (get_or lists i []) c.lose_names-count.result a (f y)) (sym at)
    (subst (λ l. LosesIn c.args.line l c.lose_names-count.result (f (get_or xs i c.index-accesses-i.result)) (f y))
    (sym names) c.lose_names-count.ensures) in
    let k = lost_low c.lose_names-count.ensures in
    let most = r.1.1 in
    let same = ap length names in
    let count = v.low in
    let ms = map-set f xs i y in
    let ss = map-set s xs i (y) in
    let more = lost_more c.args.line i c.loop-i.count c.lose_names-count.result lists
    (map f c.args.accesses.now) (map f xs) [] d (f y) v.lost low (omega arith) one in
    record {
      lost = λ m after rest.
          subst (λ (l : List Actor). LosesAll c.args.line lists ((c.loop-i.count + c.lose_names-count.result) + m)
          (map f c.args.accesses.now) (take (i + 1) l ++ after)) (sym ms)
          (more m after (subst (λ (l : List Actor). LosesAll c.args.line (drop (i + 1) lists) m (drop (i + 1) l) after)
          ms rest));
      may = subst (λ (l : List Actor). AllLosable c.args.line (drop (i + 1) lists) l)
          (sym (drop-set-lt (i + 1) (map f xs) i (f y) (omega arith)) ∙ ap (drop (i + 1)) (sym ms))
          (subst (λ j. AllLosable c.args.line (drop j lists) (drop j (map f xs))) next r.2);
      room = subst (λ (l : List ℕ). HaveRoom (drop (i + 1) lists) l)
          (sym (drop-set-lt (i + 1) (map s xs) i (s y) (omega arith)) ∙ ap (drop (i + 1)) (sym ss))
          (subst (λ j. HaveRoom (drop j lists) (drop j (map s xs))) next q.1);
      low = omega arith;
    }

pub returns : goal.returns
returns g c =
    let f = g.A.Access.actor in
    let v = c.loop-i.invariant in
    let over = c.loop-i-test.false in
    let end = c.loop-i.auto.i-end in
    let long = c.loop-i.auto.accesses in
    let e = length-map c.loop-i.accesses f in
    lost_none c.args.line (rows c.args.lists.now) (map f c.args.accesses.now) (map f c.loop-i.accesses) c.loop-i.count
    c.loop-i.i v.lost v.may (omega arith)
