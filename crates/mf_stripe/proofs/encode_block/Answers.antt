use Rattle.std.proofs.Common.{ℕ, ◌+◌, length, get_or}
use Rattle.mf_code.specs.Rows.{column}
use Rattle.mf_code.specs.Sums.{weighted}
use Rattle.mf_kernel.proofs.Lent.{of_chunks, weighted_is}
use Rattle.mf_stripe.proofs.encode_block.Goals as goal

pub returns : goal.returns
returns c =
    let a = c.args in
    let point = get_or a.points.now a.p 0 in
    of_chunks (length a.out.now) a.start 1 point a.pieces.now c.fill_powers.new.out
    (λ x. weighted point (column (a.start + x) a.pieces.now)) c.fill_powers.ensures
    (λ x. weighted_is point (column (a.start + x) a.pieces.now))
