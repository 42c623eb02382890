-- Sums of products of rows.
use Rattle.std.proofs.Common.{◌≡◌, ℕ, ◌<◌, bit_xor, sym, ap, ◌∙◌}
use Rattle.mf_code.specs.Field.{times}
use Rattle.mf_code.specs.Sums.{sum_below}
use Rattle.mf_code.proofs.Sums.{sum_below-same, sum_below_xor}
use Rattle.mf_matrix.specs.Tables.{IsTable, IsBytes, product_at}
use Rattle.mf_field.proofs.SumLaws.{times_sum, sum_times, sum_below_swap}
use Rattle.mf_field.proofs.FieldLaws.{times_assoc, add_times}

-- a combination of two rows, weighted: the same combination of their weighted sums
pub weighted-combination : (m f : ℕ) (a b z : ℕ → ℕ) → f < 256 → IsBytes b → IsBytes z
    → sum_below m (λ j. times (bit_xor (a j) (times f (b j))) (z j))
    ≡ bit_xor (sum_below m (λ j. times (a j) (z j))) (times f (sum_below m (λ j. times (b j) (z j))))
weighted-combination m f a b z lf lb lz =
    sum_below-same m (λ j. times (bit_xor (a j) (times f (b j))) (z j))
    (λ j. bit_xor (times (a j) (z j)) (times f (times (b j) (z j))))
    (λ j lt. add_times (a j) (times f (b j)) (z j)
    ∙ ap (bit_xor (times (a j) (z j))) (times_assoc f (b j) (z j) lf (lb j) (lz j)))
    ∙ sum_below_xor m (λ j. times (a j) (z j)) (λ j. times f (times (b j) (z j)))
    ∙ ap (bit_xor (sum_below m (λ j. times (a j) (z j))))
    (sym (times_sum f m (λ j. times (b j) (z j))))

-- a multiple of a row, weighted
pub weighted-multiple : (m f : ℕ) (a z : ℕ → ℕ) → f < 256 → IsBytes a → IsBytes z
    → sum_below m (λ j. times (times f (a j)) (z j)) ≡ times f (sum_below m (λ j. times (a j) (z j)))
weighted-multiple m f a z lf la lz =
    sum_below-same m (λ j. times (times f (a j)) (z j)) (λ j. times f (times (a j) (z j)))
    (λ j lt. times_assoc f (a j) (z j) lf (la j) (lz j))
    ∙ sym (times_sum f m (λ j. times (a j) (z j)))

-- the product of two tables, applied to a list, is the one applied after the other
pub product-applied : (n : ℕ) (b a : ℕ → ℕ → ℕ) (x : ℕ → ℕ) (i : ℕ) → IsTable b → IsTable a → IsBytes x
    → sum_below n (λ j. times (product_at n b a i j) (x j))
    ≡ sum_below n (λ k. times (b i k) (sum_below n (λ j. times (a k j) (x j))))
product-applied n b a x i lb la lx =
    sum_below-same n (λ j. times (product_at n b a i j) (x j))
    (λ j. sum_below n (λ k. times (times (b i k) (a k j)) (x j)))
    (λ j lt. sum_times (x j) n (λ k. times (b i k) (a k j)))
    ∙ sum_below_swap n n (λ j k. times (times (b i k) (a k j)) (x j))
    ∙ sum_below-same n (λ k. sum_below n (λ j. times (times (b i k) (a k j)) (x j)))
    (λ k. times (b i k) (sum_below n (λ j. times (a k j) (x j))))
    (λ k lt. weighted-multiple n (b i k) (a k) x (lb i k) (la k) lx)
