use Rattle.std.proofs.Common.{◌≡◌, ℕ, ◌+◌, ◌<◌, ◌≤◌, length, map, get_or, refl, sym, ap, subst, ◌∙◌, add_assoc}
use Rattle.std.proofs.Common.{arith}
use Rattle.mf_code.specs.Rows.{column}
use Rattle.mf_kernel.specs.Dots.{dot}
use Rattle.mf_kernel.proofs.Dotted.{AreSums, sums_none, sums_more, sums_alike, sums_all}
use Rattle.mf_kernel.proofs.Lent.{length-lists, list_at, long_at}
use Rattle.mf_kernel.proofs.filling.lane_sums.Goals as goal

pub loop-t-init : goal.loop-t-init
loop-t-init g c = sums_none c.args.first.now (c.args.start + c.args.at) (map g.P.Bytes.list c.args.pieces.now)

pub loop-t-preserved : goal.loop-t-preserved
loop-t-preserved g c =
    let a = c.args in
    let t = c.loop-t.t in
    let list = g.P.Bytes.list in
    let piece = c.index-pieces-t.result in
    let bytes = c.bytes.result.now in
    let lt : t < length a.pieces.now = omega arith in
    let long = long_at list a.pieces.now t (a.start + a.at + 32) piece lt c.index-pieces-t.is c.requires.columns in
    let within : a.start + a.at + 32 ≤ length bytes = omega (arith, long, ap length c.bytes.ensures) in
    sums_more a.first.now c.loop-t.plain c.add_plain-plain.result c.lanes_at.result 1 (a.start + a.at) t
    (map list a.pieces.now) (list piece) bytes c.loop-t.invariant (omega (arith, length-lists list a.pieces.now))
    (list_at list a.pieces.now t piece lt c.index-pieces-t.is) c.bytes.ensures within
    (sym (c.requires.ones t (omega arith)).0) c.lanes_at.ensures c.add_plain-plain.ensures

pub loop-t-2-init : goal.loop-t-2-init
loop-t-2-init g c =
    let a = c.args in
    let lists = map g.P.Bytes.list a.pieces.now in
    let at = a.start + a.at in
    let ones : c.loop-t.t ≡ a.ones = omega arith in
    let plain = subst (λ (t : ℕ). AreSums a.first.now t at lists c.loop-t.plain) ones c.loop-t.invariant in (
      plain,
      sums_alike a.first.now a.second.now a.ones at lists c.loop-t.plain plain
          (λ i lt. (c.requires.ones i lt).0 ∙ sym (c.requires.ones i lt).1),
      sums_alike a.first.now a.third.now a.ones at lists c.loop-t.plain plain
          (λ i lt. (c.requires.ones i lt).0 ∙ sym (c.requires.ones i lt).2),
    )

pub loop-t-2-preserved : goal.loop-t-2-preserved
loop-t-2-preserved g c =
    let a = c.args in
    let t = c.loop-t-2.t in
    let list = g.P.Bytes.list in
    let lists = map list a.pieces.now in
    let at = a.start + a.at in
    let piece = c.index-pieces-t-in-loop-t-2.result in
    let bytes = c.bytes-in-loop-t-2.result.now in
    let same = c.bytes-in-loop-t-2.ensures in
    let lanes = c.lanes_at-lanes.result in
    let lt : t < length a.pieces.now = omega arith in
    let long = long_at list a.pieces.now t (at + 32) piece lt c.index-pieces-t-in-loop-t-2.is c.requires.columns in
    let within : at + 32 ≤ length bytes = omega (arith, long, ap length same) in
    let below : t < length lists = omega (arith, length-lists list a.pieces.now) in
    let is = list_at list a.pieces.now t piece lt c.index-pieces-t-in-loop-t-2.is in (
      sums_more a.first.now c.loop-t-2.a c.add_first-a.result lanes (get_or a.first.now t 0) at t lists (list piece)
          bytes
          c.loop-t-2.invariant.0 below is same within refl c.lanes_at-lanes.ensures c.add_first-a.ensures,
      sums_more a.second.now c.loop-t-2.b c.add_product-b.result lanes (get_or a.second.now t 0) at t lists (list piece)
          bytes
          c.loop-t-2.invariant.1 below is same within refl c.lanes_at-lanes.ensures c.add_product-b.ensures,
      sums_more a.third.now c.loop-t-2.c c.add_product-c.result lanes (get_or a.third.now t 0) at t lists (list piece)
          bytes
          c.loop-t-2.invariant.2 below is same within refl c.lanes_at-lanes.ensures c.add_product-c.ensures,
    )

pub returns-clause-first : goal.returns-clause-first
returns-clause-first g c x lt =
    let a = c.args in
    let lists = map g.P.Bytes.list a.pieces.now in
    sums_all a.first.now c.loop-t-2.t (a.start + a.at) lists c.loop-t-2.a c.loop-t-2.invariant.0
    (omega (arith, length-lists g.P.Bytes.list a.pieces.now)) x lt
    ∙ ap (λ (k : ℕ). dot a.first.now (column k lists)) (add_assoc a.start a.at x)

pub returns-clause-second : goal.returns-clause-second
returns-clause-second g c x lt =
    let a = c.args in
    let lists = map g.P.Bytes.list a.pieces.now in
    sums_all a.second.now c.loop-t-2.t (a.start + a.at) lists c.loop-t-2.b c.loop-t-2.invariant.1
    (omega (arith, length-lists g.P.Bytes.list a.pieces.now)) x lt
    ∙ ap (λ (k : ℕ). dot a.second.now (column k lists)) (add_assoc a.start a.at x)

pub returns-clause-third : goal.returns-clause-third
returns-clause-third g c x lt =
    let a = c.args in
    let lists = map g.P.Bytes.list a.pieces.now in
    sums_all a.third.now c.loop-t-2.t (a.start + a.at) lists c.loop-t-2.c c.loop-t-2.invariant.2
    (omega (arith, length-lists g.P.Bytes.list a.pieces.now)) x lt
    ∙ ap (λ (k : ℕ). dot a.third.now (column k lists)) (add_assoc a.start a.at x)

pub overflow_add-start : goal.overflow_add-start
overflow_add-start g c =
    let a = c.args in
    let long = long_at g.P.Bytes.list a.pieces.now c.loop-t.t (a.start + a.at + 32) c.index-pieces-t.result
    (omega arith) c.index-pieces-t.is c.requires.columns in
    record { fits = omega (arith, long, ap length c.bytes.ensures) }

pub lanes_at-requires : goal.lanes_at-requires
lanes_at-requires g c =
    let a = c.args in
    let long = long_at g.P.Bytes.list a.pieces.now c.loop-t.t (a.start + a.at + 32) c.index-pieces-t.result
    (omega arith) c.index-pieces-t.is c.requires.columns in
    omega (arith, long, ap length c.bytes.ensures)

pub overflow_add-start-in-loop-t-2 : goal.overflow_add-start-in-loop-t-2
overflow_add-start-in-loop-t-2 g c =
    let a = c.args in
    let long = long_at g.P.Bytes.list a.pieces.now c.loop-t-2.t (a.start + a.at + 32)
    c.index-pieces-t-in-loop-t-2.result (omega arith) c.index-pieces-t-in-loop-t-2.is c.requires.columns in
    record { fits = omega (arith, long, ap length c.bytes-in-loop-t-2.ensures) }

pub lanes_at-lanes-requires : goal.lanes_at-lanes-requires
lanes_at-lanes-requires g c =
    let a = c.args in
    let long = long_at g.P.Bytes.list a.pieces.now c.loop-t-2.t (a.start + a.at + 32)
    c.index-pieces-t-in-loop-t-2.result (omega arith) c.index-pieces-t-in-loop-t-2.is c.requires.columns in
    omega (arith, long, ap length c.bytes-in-loop-t-2.ensures)
