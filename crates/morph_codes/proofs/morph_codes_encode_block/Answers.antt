use Rattle.std.proofs.Common.{◌+◌, length, ◌∙◌}
use Rattle.mf_code.specs.Rows.{column}
use Rattle.mf_code.specs.Sums.{weighted}
use Rattle.mf_code.proofs.Lists.{list_of-same}
use Rattle.mf_kernel.specs.Dots.{dot_powers}
use Rattle.mf_kernel.proofs.Lent.{weighted_is}
use Rattle.morph_codes.specs.Handed.{bytes_of}
use Rattle.morph_codes.proofs.morph_codes_encode_block.Goals as goal

pub returns-clause-done : goal.returns-clause-done
returns-clause-done c _ =
    let a = c.args in
    let pieces = bytes_of a.pieces.now in
    c.fill_powers.ensures
    ∙ list_of-same (length a.out.now) (λ x. dot_powers 1 a.point (column (a.start + x) pieces))
    (λ x. weighted a.point (column (a.start + x) pieces)) (λ x lt. weighted_is a.point (column (a.start + x) pieces))
