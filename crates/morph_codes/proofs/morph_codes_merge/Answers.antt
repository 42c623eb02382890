use Rattle.std.proofs.Common.{ℕ, ◌+◌, ◌*◌, length, get_or, ap, ◌∙◌}
use Rattle.mf_code.specs.Field.{times, power}
use Rattle.mf_code.specs.Rows.{column}
use Rattle.mf_code.specs.Sums.{sum_below}
use Rattle.mf_code.proofs.Lists.{list_of-same}
use Rattle.mf_kernel.specs.Dots.{dot_powers}
use Rattle.mf_kernel.proofs.Blocks.{length-column}
use Rattle.mf_merge.specs.Merged.{merged_byte}
use Rattle.morph_codes.specs.Handed.{bytes_of}
use Rattle.morph_codes.proofs.morph_codes_merge.Goals as goal

pub returns-clause-done : goal.returns-clause-done
returns-clause-done c _ =
    let a = c.args in
    let parities = bytes_of a.parities.now in
    c.fill_powers.ensures
    ∙ list_of-same (length a.out.now) (λ x. dot_powers a.width a.point (column (a.start + x) parities))
    (λ x. merged_byte a.point a.width parities (a.start + x))
    (λ x lt.
    ap (λ (n : ℕ). sum_below n (λ b. times (power a.point (b * a.width)) (get_or (column (a.start + x) parities) b 0)))
    (length-column (a.start + x) parities))
