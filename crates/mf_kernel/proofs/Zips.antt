-- A list that a loop has written place by place.
use Rattle.std.proofs.Common.{◌≡◌, ℕ, ◌<◌, List, length, get_or, sym, ◌∙◌, arith}
use lib.Lanes.{zip2}
use Rattle.std.proofs.lemmas.Simd.{length-zip2, get_or-zip2}
use Rattle.std.proofs.lemmas.Grind.{same_number_lists}

-- a list whose place k holds f of the places k of two others is their zip by f
pub zip2_from_places : (f : ℕ → ℕ → ℕ) (xs ys zs : List ℕ) → length zs ≡ length xs → length xs ≡ length ys
    → ((k : ℕ) → k < length zs → get_or zs k 0 ≡ f (get_or xs k 0) (get_or ys k 0)) → zs ≡ zip2 f xs ys
zip2_from_places f xs ys zs long same at =
    same_number_lists zs (zip2 f xs ys) (long ∙ sym (length-zip2 f xs ys same))
    (λ k lt. at k lt ∙ sym (get_or-zip2 f xs ys k 0 0 0 (omega arith) (omega arith)))
