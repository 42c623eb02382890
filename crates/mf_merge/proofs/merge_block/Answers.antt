use Rattle.std.proofs.Common.{ℕ, ◌+◌, ◌*◌, length, get_or, ap}
use Rattle.mf_code.specs.Field.{times, power}
use Rattle.mf_code.specs.Rows.{column}
use Rattle.mf_code.specs.Sums.{sum_below}
use Rattle.mf_kernel.proofs.Blocks.{length-column}
use Rattle.mf_kernel.proofs.Lent.{of_chunks}
use Rattle.mf_merge.specs.Merged.{merged_byte}
use Rattle.mf_merge.proofs.merge_block.Goals as goal

pub returns : goal.returns
returns c =
    let a = c.args in
    of_chunks (length a.out.now) a.start a.width a.point a.parities.now c.fill_powers.new.out
    (λ x. merged_byte a.point a.width a.parities.now (a.start + x)) c.fill_powers.ensures
    (λ x.
    ap (λ (n : ℕ). sum_below n
    (λ b. times (power a.point (b * a.width)) (get_or (column (a.start + x) a.parities.now) b 0)))
    (length-column (a.start + x) a.parities.now))
