-- Sums by rows of powers.
use Rattle.std.proofs.Common.{◌≡◌, ℕ, ◌*◌, List, length, get_or, map, All, ap, ◌∙◌, arith}
use Rattle.std.proofs.lemmas.Simd.{map-map}
use Rattle.std.proofs.lemmas.List.Elements.{All-map}
use Rattle.mf_lemmas.proofs.Lists.{map-same}
use Rattle.mf_code.specs.Field.{times, power}
use Rattle.mf_code.specs.Rows.{column, weighted_lists}
use Rattle.mf_code.specs.Sums.{weighted}
use Rattle.mf_code.proofs.Sums.{sum_below-same}
use Rattle.mf_code.proofs.Lists.{length-list_of, list_of_at, list_of-same}
use Rattle.mf_kernel.specs.Dots.{dot, combined, powers_of}
use Rattle.mf_kernel.proofs.Blocks.{length-column}

-- the sum by the powers of a point is the sum by the point
dot_powers : (point x : ℕ) (pieces : List (List ℕ))
    → dot (powers_of (length pieces) 1 point) (column x pieces) ≡ weighted point (column x pieces)
dot_powers point x pieces =
    let row = powers_of (length pieces) 1 point in
    let bytes = column x pieces in
    sum_below-same (length bytes) (λ t. times (get_or row t 0) (get_or bytes t 0))
    (λ t. times (power point t) (get_or bytes t 0))
    (λ t lt. ap (λ (f : ℕ). times f (get_or bytes t 0))
    (list_of_at (length pieces) (λ t. power point (t * 1)) t (omega (arith, length-column x pieces))
    ∙ ap (power point) (let e : t * 1 ≡ t = omega arith in e)))

-- the sums by the rows of the points are the parities
pub combined_powers : (size : ℕ) (points : List ℕ) (pieces rows lists : List (List ℕ))
    → rows ≡ map (powers_of (length pieces) 1) points
    → lists ≡ map (combined size pieces) rows → lists ≡ map (λ point. weighted_lists size point pieces) points
combined_powers size points pieces rows lists are made =
    made ∙ ap (map (combined size pieces)) are ∙ map-map (combined size pieces) (powers_of (length pieces) 1) points
    ∙ map-same (λ point. combined size pieces (powers_of (length pieces) 1 point))
    (λ point. weighted_lists size point pieces)
    (λ point. list_of-same size (λ x. dot (powers_of (length pieces) 1 point) (column x pieces))
    (λ x. weighted point (column x pieces)) (λ x lt. dot_powers point x pieces))
    points

-- each row has a power for each piece
pub powers_long : (n : ℕ) (points : List ℕ) (rows : List (List ℕ)) → rows ≡ map (powers_of n 1) points
    → All (λ (row : List ℕ). length row ≡ n) rows
powers_long n points rows are = λ k d lt.
    ap (λ (r : List (List ℕ)). length (get_or r k d)) are
    ∙ All-map (λ (row : List ℕ). length row ≡ n) (powers_of n 1) points
    (λ i e below. length-list_of n (λ t. power (get_or points i e) (t * 1)))
    k d (omega (arith, ap length are))
