use Rattle.std.proofs.Common.{arith}
use Rattle.std.proofs.lemmas.List.{length-take}
use Rattle.mf_code.specs.Rows.{column}
use Rattle.mf_kernel.specs.Dots.{dot}
use Rattle.mf_kernel.proofs.Fronts.{list_of-block}
use Rattle.mf_kernel.proofs.Lent.{of_block}
use Rattle.mf_kernel.proofs.combining.one_sum.Goals as goal

pub loop-start-preserved : goal.loop-start-preserved
loop-start-preserved c =
    let a = c.args in
    let start = c.loop-start.start in
    let count = c.min-count.result in (
      omega arith,
      list_of-block (λ x. dot a.row.now (column x a.chunks.now)) start count _ c.loop-start.sum.items
          c.extend_from_slice.new.self.items c.fill_row.new.out _
          (omega (arith, c.min-count.array_long, length-take count c.loop-start.block)) c.loop-start.invariant.1
          (of_block _ start a.row.now a.chunks.now c.fill_row.new.out c.fill_row.ensures)
          c.in_ok-extend_from_slice.ensures.items,
    )
