use Rattle.std.proofs.Common.{◌+◌, [], ◌++◌, get_or, drop, ◌∙◌, arith}
use Rattle.std.proofs.lemmas.List.{length-take}
use Rattle.mf_code.specs.Rows.{column}
use Rattle.mf_kernel.specs.Dots.{dot}
use Rattle.morph_codes.specs.Handed.{bytes_of, rooms_of}
use Rattle.morph_codes.proofs.Spans.{span_more, front_all, block_is}
use Rattle.morph_codes.proofs.applying.fill_three_by.Goals as goal

pub put_three-requires-clause-first : goal.put_three-requires-clause-first
put_three-requires-clause-first c =
    let a = c.args in
    let same = c.loop-start.invariant.1 in
    let sized = c.loop-start.invariant.2 a.q (omega arith) in
    let count = c.min-count.result in
    omega (arith, sized, length-take count (c.fill_three.new.a ++ drop count c.loop-start.x))

pub put_three-requires-clause-second : goal.put_three-requires-clause-second
put_three-requires-clause-second c =
    let a = c.args in
    let same = c.loop-start.invariant.1 in
    let sized = c.loop-start.invariant.2 (a.q + 1) (omega arith) in
    let count = c.min-count.result in
    omega (arith, sized, length-take count (c.fill_three.new.b ++ drop count c.loop-start.y))

pub put_three-requires-clause-third : goal.put_three-requires-clause-third
put_three-requires-clause-third c =
    let a = c.args in
    let same = c.loop-start.invariant.1 in
    let sized = c.loop-start.invariant.2 (a.q + 2) (omega arith) in
    let count = c.min-count.result in
    omega (arith, sized, length-take count (c.fill_three.new.c ++ drop count c.loop-start.z))

pub loop-start-preserved : goal.loop-start-preserved
loop-start-preserved c =
    let a = c.args in
    let start = c.loop-start.start in
    let count = c.min-count.result in
    let pieces = bytes_of a.pieces.now in
    let rooms = rooms_of c.loop-start.rooms in
    let inv = c.loop-start.invariant in
    let same = inv.1 in
    let made = c.put_three.ensures in (
      omega arith,
      made.length ∙ same,
      (λ i lt. made.sizes i ∙ inv.2 i (omega (arith, made.length))),
      span_more a.first.now pieces start count _ _ (get_or rooms a.q []) _
          (let sized = inv.2 a.q (omega arith) in omega (arith, sized))
          (omega (arith, c.min-count.array_long, length-take count c.loop-start.x))
          (block_is (λ x. dot a.first.now (column (start + x) pieces)) count _ c.fill_three.new.a _
          (omega (arith, c.min-count.array_long, length-take count c.loop-start.x)) c.fill_three.ensures.first)
          made.first inv.3,
      span_more a.second.now pieces start count _ _ (get_or rooms (a.q + 1) []) _
          (let sized = inv.2 (a.q + 1) (omega arith) in omega (arith, sized))
          (omega (arith, c.min-count.array_long, length-take count c.loop-start.x))
          (block_is (λ x. dot a.second.now (column (start + x) pieces)) count _ c.fill_three.new.b _
          (omega (arith, c.min-count.array_long, length-take count c.loop-start.x)) c.fill_three.ensures.second)
          made.second inv.4,
      span_more a.third.now pieces start count _ _ (get_or rooms (a.q + 2) []) _
          (let sized = inv.2 (a.q + 2) (omega arith) in omega (arith, sized))
          (omega (arith, c.min-count.array_long, length-take count c.loop-start.x))
          (block_is (λ x. dot a.third.now (column (start + x) pieces)) count _ c.fill_three.new.c _
          (omega (arith, c.min-count.array_long, length-take count c.loop-start.x)) c.fill_three.ensures.third)
          made.third inv.5,
      (λ i lt. made.below i lt ∙ inv.6 i lt),
      (λ i le. made.above i le ∙ inv.7 i le),
    )

pub returns-clause-first : goal.returns-clause-first
returns-clause-first c =
    let a = c.args in
    let inv = c.loop-start.invariant in
    let same = inv.1 in
    front_all a.first.now (bytes_of a.pieces.now) c.loop-start.start a.size
    (get_or (rooms_of c.loop-start.rooms) a.q [])
    (inv.2 a.q (omega arith)) (omega arith) inv.3

pub returns-clause-second : goal.returns-clause-second
returns-clause-second c =
    let a = c.args in
    let inv = c.loop-start.invariant in
    let same = inv.1 in
    front_all a.second.now (bytes_of a.pieces.now) c.loop-start.start a.size
    (get_or (rooms_of c.loop-start.rooms) (a.q + 1) [])
    (inv.2 (a.q + 1) (omega arith)) (omega arith) inv.4

pub returns-clause-third : goal.returns-clause-third
returns-clause-third c =
    let a = c.args in
    let inv = c.loop-start.invariant in
    let same = inv.1 in
    front_all a.third.now (bytes_of a.pieces.now) c.loop-start.start a.size
    (get_or (rooms_of c.loop-start.rooms) (a.q + 2) [])
    (inv.2 (a.q + 2) (omega arith)) (omega arith) inv.5
