use Rattle.std.proofs.Common.{arith}
use Rattle.std.proofs.lemmas.List.{length-take}
use Rattle.mf_code.specs.Rows.{column}
use Rattle.mf_kernel.specs.Dots.{dot}
use Rattle.mf_kernel.proofs.Fronts.{list_of-block}
use Rattle.mf_kernel.proofs.Lent.{of_block}
use Rattle.mf_kernel.proofs.combining.two_sums.Goals as goal

pub loop-start-preserved : goal.loop-start-preserved
loop-start-preserved c =
    let a = c.args in
    let start = c.loop-start.start in
    let count = c.min-count.result in (
      omega arith,
      list_of-block (λ x. dot a.first.now (column x a.chunks.now)) start count _ c.loop-start.a.items
          c.extend_from_slice.new.self.items c.fill_two.new.a _
          (omega (arith, c.min-count.array_long, length-take count c.loop-start.x)) c.loop-start.invariant.1
          (of_block _ start a.first.now a.chunks.now c.fill_two.new.a c.fill_two.ensures.first)
          c.in_ok-extend_from_slice.ensures.items,
      list_of-block (λ x. dot a.second.now (column x a.chunks.now)) start count _ c.loop-start.b.items
          c.extend_from_slice-in-loop-start.new.self.items c.fill_two.new.b _
          (omega (arith, c.min-count.array_long, length-take count c.loop-start.x)) c.loop-start.invariant.2
          (of_block _ start a.second.now a.chunks.now c.fill_two.new.b c.fill_two.ensures.second)
          c.in_ok-extend_from_slice-2.ensures.items,
    )
