use Rattle.std.proofs.Common.{◌*◌, ◌<◌, [], sym, ap, ◌∙◌, subst, map, take, set, get_or, arith}
use Rattle.std.proofs.Common.{length}
use Rattle.std.specs.Prelude.{slice_index_or}
use Rattle.std.proofs.lemmas.List.{length-map, get_or-map, map-set, take_more}
use Rattle.mf_check.specs.Families.{Code}
use Rattle.mf_script.specs.Families.{code_at, file_code}
use Rattle.mf_vault.specs.Actor.{Actor}
use Rattle.mf_vault.specs.Conditions.{IsOfFamily}
use Rattle.mf_vault.specs.Counting.{io_of}
use Rattle.mf_client.specs.Runs.{gained}
use Rattle.mf_client.specs.Steps.{VisitedAll}
use Rattle.mf_client.proofs.Numbered.{all_at, all_kept, filed, io_same}
use Rattle.mf_client.proofs.Visiting.{none_visited, one_visited, on_visited, visited_passes, visit_low, sums_fit}
use Rattle.mf_client.proofs.Visiting.{io_more, parts_low}
use Rattle.mf_client.proofs.Dues.{visited_passed, visits_few, family_at, stage_at}
use Rattle.mf_vault.proofs.Counted.{Below}
use Rattle.mf_client.proofs.sweeping.visit_all.Goals as goal

pub loop-file-init : goal.loop-file-init
loop-file-init g c =
    let f = g.A.Access.actor in
    let none = ap length c.requires.none in
    record {
      visited = none_visited (map f c.args.accesses.now) [] c.args.parts.now.items c.requires.none;
      io = sym (io_same (map f c.args.accesses.now));
      room = omega arith;
      capacity = omega arith;
    }

pub visit-requires-clause-idle : goal.visit-requires-clause-idle
visit-requires-clause-idle g c =
    let f = g.A.Access.actor in
    let old = c.args.accesses.now in
    let xs = c.loop-file.accesses in
    let k = c.loop-file.file-index in
    let dues = c.args.dues.now in
    let s = c.args.script.now in
    let lt = c.loop-file-test.true in
    let due = c.requires.due k (0, 0) (omega arith) in
    let file = (slice_index_or dues k (0, 0)).0 in
    let low : file < length xs = omega (
      arith,
      due.file,
      c.loop-file.auto.accesses,
      c.requires.families.count,
      length-map old f,
    ) in
    let d = c.index-accesses-file.result in
    let v = c.loop-file.invariant.visited in
    let passed = visited_passed s dues k (map f old) (map f xs) [] c.loop-file.parts.items c.requires.due
    c.requires.idle (filed (map f old) (all_kept f old (λ x. g.met.A.Access.kept x))) v in
    all_at Rattle.mf_vault.specs.Conditions.IsIdle f xs file d passed.idle low

pub visit-requires-clause-family : goal.visit-requires-clause-family
visit-requires-clause-family g c =
    let f = g.A.Access.actor in
    let old = c.args.accesses.now in
    let xs = c.loop-file.accesses in
    let k = c.loop-file.file-index in
    let dues = c.args.dues.now in
    let s = c.args.script.now in
    let lt = c.loop-file-test.true in
    let due = c.requires.due k (0, 0) (omega arith) in
    let file = (slice_index_or dues k (0, 0)).0 in
    let low : file < length xs = omega (
      arith,
      due.file,
      c.loop-file.auto.accesses,
      c.requires.families.count,
      length-map old f,
    ) in
    let d = c.index-accesses-file.result in
    let v = c.loop-file.invariant.visited in
    let passed = visited_passed s dues k (map f old) (map f xs) [] c.loop-file.parts.items c.requires.due
    c.requires.idle (filed (map f old) (all_kept f old (λ x. g.met.A.Access.kept x))) v in
    let e = length-map xs f in
    let code = c.family-family.ensures ∙ ap (code_at s) c.family_of.ensures.number in
    subst (λ (x : Code). IsOfFamily x.shape x.points (f (get_or xs file d)).facts.book) (sym code)
    (subst (λ (a : Actor). IsOfFamily (file_code s file).shape (file_code s file).points a.facts.book)
    (get_or-map f xs file d (f d) low)
    (family_at s (map f old) (map f xs) file (f d) c.requires.families passed.facts (omega arith)))

pub visit-requires-clause-due : goal.visit-requires-clause-due
visit-requires-clause-due g c =
    let f = g.A.Access.actor in
    let old = c.args.accesses.now in
    let xs = c.loop-file.accesses in
    let k = c.loop-file.file-index in
    let dues = c.args.dues.now in
    let s = c.args.script.now in
    let lt = c.loop-file-test.true in
    let due = c.requires.due k (0, 0) (omega arith) in
    let file = (slice_index_or dues k (0, 0)).0 in
    let low : file < length xs = omega (
      arith,
      due.file,
      c.loop-file.auto.accesses,
      c.requires.families.count,
      length-map old f,
    ) in
    let d = c.index-accesses-file.result in
    let v = c.loop-file.invariant.visited in
    let passed = visited_passed s dues k (map f old) (map f xs) [] c.loop-file.parts.items c.requires.due
    c.requires.idle (filed (map f old) (all_kept f old (λ x. g.met.A.Access.kept x))) v in
    let e = length-map xs f in
    stage_at (file_code s file).shape (file_code s file).points (f (get_or xs file d)).facts
    (slice_index_or dues k (0, 0)).1
    (subst (λ (a : Actor). IsOfFamily (file_code s file).shape (file_code s file).points a.facts.book)
    (get_or-map f xs file d (f d) low)
    (family_at s (map f old) (map f xs) file (f d) c.requires.families passed.facts (omega arith))) due.stage

pub visit-requires-clause-room : goal.visit-requires-clause-room
visit-requires-clause-room g c =
    let k = c.loop-file.file-index in
    let lt = c.loop-file-test.true in
    let due = c.requires.due k (0, 0) (omega arith) in
    let stage = due.few in
    let room = c.loop-file.invariant.room in
    let capacity = c.loop-file.invariant.capacity in
    let all = c.requires.room in omega arith

pub plus-io-requires : goal.plus-io-requires
plus-io-requires g c =
    let f = g.A.Access.actor in
    let old = c.args.accesses.now in
    let xs = c.loop-file.accesses in
    let k = c.loop-file.file-index in
    let dues = c.args.dues.now in
    let s = c.args.script.now in
    let lt = c.loop-file-test.true in
    let due = c.requires.due k (0, 0) (omega arith) in
    let file = (slice_index_or dues k (0, 0)).0 in
    let low : file < length xs = omega (
      arith,
      due.file,
      c.loop-file.auto.accesses,
      c.requires.families.count,
      length-map old f,
    ) in
    let d = c.index-accesses-file.result in
    let v = c.loop-file.invariant.visited in
    let passed = visited_passed s dues k (map f old) (map f xs) [] c.loop-file.parts.items c.requires.due
    c.requires.idle (filed (map f old) (all_kept f old (λ x. g.met.A.Access.kept x))) v in
    let stage = due.few in
    let kept = g.met.A.Access.kept (get_or xs file d) in
    let few = visits_few dues k (map f old) (map f xs) [] c.loop-file.parts.items v in
    let all = c.requires.few in
    let one = visit_low file (slice_index_or dues k (0, 0)).1 (f (get_or xs file d)) (f c.visit.new.access)
    c.loop-file.parts.items c.visit.new.parts.items (omega arith) kept.file.layout
    (all_at Rattle.mf_vault.specs.Conditions.IsIdle f xs file d passed.idle low) c.visit.ensures.visited in
    sums_fit c.loop-file.io c.visit.result (length v.visits * 7920020) 7920020 (omega arith)
    (subst (λ x. Below x (length v.visits * 7920020)) (sym c.loop-file.invariant.io) passed.low)
    (subst (λ x. Below x 7920020) (sym c.visit.ensures.io) one)

pub loop-file-preserved : goal.loop-file-preserved
loop-file-preserved g c =
    let f = g.A.Access.actor in
    let old = c.args.accesses.now in
    let xs = c.loop-file.accesses in
    let k = c.loop-file.file-index in
    let dues = c.args.dues.now in
    let s = c.args.script.now in
    let lt = c.loop-file-test.true in
    let due = c.requires.due k (0, 0) (omega arith) in
    let file = (slice_index_or dues k (0, 0)).0 in
    let low : file < length xs = omega (
      arith,
      due.file,
      c.loop-file.auto.accesses,
      c.requires.families.count,
      length-map old f,
    ) in
    let d = c.index-accesses-file.result in
    let v = c.loop-file.invariant.visited in
    let passed = visited_passed s dues k (map f old) (map f xs) [] c.loop-file.parts.items c.requires.due
    c.requires.idle (filed (map f old) (all_kept f old (λ x. g.met.A.Access.kept x))) v in
    let e = length-map xs f in
    let n = (slice_index_or dues k (0, 0)).1 in
    let y = c.visit.new.access in
    let stage = due.few in
    let on = on_visited f xs file n d y c.loop-file.parts.items c.visit.new.parts.items low c.visit.ensures.visited in
    let next = visited_passes file n (map f xs) (map f (set xs file y)) c.loop-file.parts.items
    c.visit.new.parts.items (omega arith) passed.idle passed.filed on in
    let told = parts_low file n (f (get_or xs file d)) (f y) c.loop-file.parts.items c.visit.new.parts.items
    c.visit.ensures.visited in
    let room = c.loop-file.invariant.room in
    let capacity = c.loop-file.invariant.capacity in
    let still = c.visit.ensures.capacity in
    record {
      visited = subst (λ l. VisitedAll l (map f old) (map f (set xs file y)) [] c.visit.new.parts.items)
          (sym (take_more dues k (0, 0) (omega arith)))
          (one_visited (take k dues) file n (map f old) (map f xs) (map f (set xs file y)) [] c.loop-file.parts.items
          c.visit.new.parts.items v on);
      io = io_more (map f old) (map f xs) (map f (set xs file y)) file (f d) (f y) (length v.visits * 7920020) 7920020
          c.loop-file.io c.visit.result c.plus-io.result passed next (map-set f xs file y) (omega arith)
          c.loop-file.invariant.io
          (c.visit.ensures.io ∙ ap (λ (a : Actor). io_of (gained a (f y))) (sym (get_or-map f xs file d (f d) low)))
          c.plus-io.ensures;
      room = omega arith;
      capacity = omega arith;
    }
