-- Values spread over places: what stands at the lost places, and zero elsewhere.
use Rattle.std.proofs.Common.{◌≡◌, ◌≢◌, ℕ, zero, suc, ◌<◌, ◌==◌, sym, ◌∙◌, ap, ap₂, subst, arith}
use mathlib.Core.Logic.{dite}
use native.Mathlib.Decide.{ℕ_discrete}
use Rattle.std.specs.Prelude.{bit_xor, if◌then◌else◌}
use Rattle.mf_code.specs.Field.{times}
use Rattle.mf_code.specs.Sums.{sum_below}
use Rattle.mf_code.proofs.Sums.{sum_below-same, sum_below-zero, sum_below_xor, sum_below-lt}
use Rattle.mf_field.proofs.SumLaws.{sum_below-single}
use Rattle.mf_field.proofs.FieldLaws.{times_add, times-zero}

-- x if a is t, and else 0
abbrev pub at_place : ℕ → ℕ → ℕ → ℕ
at_place a t x = if a == t then x else 0

-- value j at place lost j, for the first n of them, and 0 elsewhere
abbrev pub spread : ℕ → (ℕ → ℕ) → (ℕ → ℕ) → ℕ → ℕ
spread n lost x t = sum_below n (λ j. at_place (lost j) t (x j))

pub at_place-same : (a x : ℕ) → at_place a a x ≡ x
at_place-same a x = grind arith

-- nothing at a place is nothing
pub at_place-zero : (a t : ℕ) → at_place a t 0 ≡ 0
at_place-zero a t = grind arith

pub at_place-other : (a t x : ℕ) → a ≢ t → at_place a t x ≡ 0
at_place-other a t x h = grind arith

-- the sum over all places of a value at one place
pub sum_at_place : (width a y : ℕ) (p : ℕ → ℕ) → a < width → sum_below width (λ t. times (p t) (at_place a t y))
    ≡ times (p a) y
sum_at_place width a y p lt =
    sum_below-single width a (λ t. times (p t) (at_place a t y)) lt
    (λ i l d. ap (times (p i)) (at_place-other a i y (λ e. d (sym e))) ∙ times-zero (p i))
    ∙ ap (times (p a)) (at_place-same a y)

-- a sum over all places of spread values is a sum over the values
pub sum_spread : (n width : ℕ) (lost x p : ℕ → ℕ) → ((j : ℕ) → j < n → lost j < width)
    → sum_below width (λ t. times (p t) (spread n lost x t)) ≡ sum_below n (λ j. times (p (lost j)) (x j))
unfolding sum_below
sum_spread zero width lost x p h = sum_below-zero width (λ t. times (p t) 0) (λ i l. times-zero (p i))
sum_spread (suc n) width lost x p h =
    sum_below-same width (λ t. times (p t) (bit_xor (spread n lost x t) (at_place (lost n) t (x n))))
    (λ t. bit_xor (times (p t) (spread n lost x t)) (times (p t) (at_place (lost n) t (x n))))
    (λ t l. times_add (p t) (spread n lost x t) (at_place (lost n) t (x n)))
    ∙ sum_below_xor width (λ t. times (p t) (spread n lost x t)) (λ t. times (p t) (at_place (lost n) t (x n)))
    ∙ ap₂ bit_xor (sum_spread n width lost x p (λ j l. h j (omega arith)))
    (sum_at_place width (lost n) (x n) p (h n (omega arith)))

-- at a place that isn't lost there is 0
pub spread-other : (n : ℕ) (lost x : ℕ → ℕ) (t : ℕ) → ((j : ℕ) → j < n → lost j ≢ t) → spread n lost x t ≡ 0
spread-other n lost x t h = sum_below-zero n (λ j. at_place (lost j) t (x j))
    (λ j l. at_place-other (lost j) t (x j) (h j l))

-- at lost place j there is value j, where the places differ
pub spread-lost : (n : ℕ) (lost x : ℕ → ℕ) (j : ℕ) → j < n → ((i : ℕ) → i < n → i ≢ j → lost i ≢ lost j)
    → spread n lost x (lost j) ≡ x j
spread-lost n lost x j lt h =
    sum_below-single n j (λ i. at_place (lost i) (lost j) (x i)) lt
    (λ i l d. at_place-other (lost i) (lost j) (x i) (h i l d))
    ∙ at_place-same (lost j) (x j)

-- spread bytes are bytes
pub spread-lt : (n : ℕ) (lost x : ℕ → ℕ) (t : ℕ) → ((j : ℕ) → x j < 256) → spread n lost x t < 256
spread-lt n lost x t h = sum_below-lt n (λ j. at_place (lost j) t (x j))
    (λ j l. dite (ℕ_discrete (lost j) t)
    (λ e. subst (λ v. v < 256) (sym (at_place-is j e)) (h j))
    (λ ne. subst (λ v. v < 256) (sym (at_place-other (lost j) t (x j) ne)) (omega arith)))
  where
    at_place-is : (j : ℕ) → lost j ≡ t → at_place (lost j) t (x j) ≡ x j
    at_place-is j e = subst (λ s. at_place (lost j) s (x j) ≡ x j) e (at_place-same (lost j) (x j))
