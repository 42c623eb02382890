-- Rows of powers, one behind the other.
use Rattle.std.proofs.Common.{◌≡◌, ℕ, ◌+◌, ◌*◌, ◌/◌, ◌%◌, ◌<◌, List, length, get_or, ap, ap₂, ◌∙◌, arith}
use Rattle.std.proofs.lemmas.Nat.{div-mul-add, mod-mul-add}
use Rattle.mf_code.specs.Field.{times, power}
use Rattle.mf_code.specs.Rows.{column, weighted_lists}
use Rattle.mf_code.specs.Sums.{weighted}
use Rattle.mf_code.proofs.Sums.{sum_below-same}
use Rattle.mf_code.proofs.Lists.{list_of-same}
use Rattle.mf_kernel.specs.Dots.{dot, combined}
use Rattle.mf_kernel.proofs.Blocks.{length-column, columns_at}
use Rattle.morph_codes.specs.Decoded.{row_at}
use Rattle.morph_codes.proofs.Kept.{row_ends}

-- the sum by the powers of a point is its parity
pub parity_row : (points rows : List ℕ) (n q size : ℕ) (pieces : List (List ℕ)) → length pieces ≡ n
    → length rows ≡ length points * n → q < length points
    → ((i : ℕ) → i < length points * n → get_or rows i 0 ≡ power (get_or points (i / n) 0) (i % n))
    → combined size pieces (row_at n rows q) ≡ weighted_lists size (get_or points q 0) pieces
parity_row points rows n q size pieces many long lt are =
    let row = row_at n rows q in
    let point = get_or points q 0 in
    let ends = row_ends n q (length points) lt in
    list_of-same size (λ x. dot row (column x pieces)) (λ x. weighted point (column x pieces)) (λ x below.
    let bytes = column x pieces in
    sum_below-same (length bytes) (λ t. times (get_or row t 0) (get_or bytes t 0))
    (λ t. times (power point t) (get_or bytes t 0))
    (λ t inside.
    let within : t < n = omega (arith, length-column x pieces) in
    ap (λ (f : ℕ). times f (get_or bytes t 0))
    (columns_at (q * n) n rows t within ∙ are (q * n + t) (omega arith)
    ∙ ap₂ (λ (a b : ℕ). power (get_or points a 0) b) (div-mul-add q n t within) (mod-mul-add q n t within))))
