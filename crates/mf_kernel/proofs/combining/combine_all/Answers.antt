use Rattle.std.proofs.Common.{◌≡◌, ◌≤◌, List, ℕ, length, arith}
use Rattle.mf_kernel.specs.Dots.{rows, combined}
use Rattle.mf_kernel.proofs.RowLists.{rest, rest_all, sums_step, length-rest}
use Rattle.mf_kernel.proofs.combining.combine_all.Goals as goal

pub push_sums-requires-clause-coefficients : goal.push_sums-requires-clause-coefficients
push_sums-requires-clause-coefficients c =
    rest_all (λ (row : List ℕ). length row ≡ length c.args.chunks.now) c.loop-done.done c.args.rows.now (omega arith)
    c.requires.coefficients

pub loop-done-preserved : goal.loop-done-preserved
loop-done-preserved c =
    let a = c.args in
    let within : c.in_ok-done.field-0 ≤ length (rest c.loop-done.done a.rows.now) = c.in_ok-done.ensures.within in (
      omega (arith, length-rest c.loop-done.done a.rows.now (omega arith)),
      sums_step (combined a.size a.chunks.now) c.loop-done.done c.in_ok-done.field-0 a.rows.now
          (rows c.loop-done.lists.items) (rows c.push_sums.new.lists.items) (omega arith) c.loop-done.invariant.1
          c.in_ok-done.ensures.sums,
    )
