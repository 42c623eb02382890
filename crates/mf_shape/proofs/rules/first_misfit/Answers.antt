use Rattle.std.proofs.Common.{◌≤◌, arith}
use Rattle.mf_shape.proofs.Widths.{max_copied_width-le-limit}
use Rattle.mf_shape.proofs.rules.first_misfit.Goals as goal

pub overflow_mul-first : goal.overflow_mul-first
overflow_mul-first c =
    let copied : c.greatest_copied_width-copied.result
    ≤ 64 = rw c.greatest_copied_width-copied.ensures (max_copied_width-le-limit c.requires) in
    let copies = c.requires.copies 0 (omega arith) in
    grind arith
