use Rattle.std.proofs.Common.{◌≡◌, ℕ, ◌+◌, length, ap, ◌∙◌, arith}
use Rattle.mf_code.specs.Rows.{column}
use Rattle.mf_code.specs.Sums.{weighted}
use Rattle.mf_code.proofs.Lists.{list_of-same}
use Rattle.mf_kernel.specs.Dots.{dot_powers}
use Rattle.mf_kernel.proofs.Lent.{weighted_is}
use Rattle.morph_codes.specs.Handed.{bytes_of}
use Rattle.morph_codes.proofs.encoding.fill_room.Goals as goal

pub returns : goal.returns
returns c =
    let a = c.args in
    let pieces = bytes_of a.pieces.now in
    c.fill_powers.ensures
    ∙ list_of-same (length a.room.now.bytes.now) (λ x. dot_powers 1 a.point (column (0 + x) pieces))
    (λ x. weighted a.point (column x pieces)) (λ x lt.
    weighted_is a.point (column (0 + x) pieces)
    ∙ ap (λ (k : ℕ). weighted a.point (column k pieces)) (let e : 0 + x ≡ x = omega arith in e))
