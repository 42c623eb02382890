-- The powers of 2 come again after 255.
use Rattle.std.proofs.Common.{◌≡◌, ℕ, zero, suc, ◌+◌, ◌-◌, ◌*◌, ◌/◌, ◌%◌, ◌<◌, ◌⊎◌, inl, inr, refl, sym, ap, ap₂, ◌∙◌}
use Rattle.std.proofs.Common.{arith, div-add-mod', mul_comm}
use Rattle.mf_code.specs.Field.{carryless, remainder, times, power}
use Rattle.mf_field.proofs.FieldLaws.{times-zero, zero-times, one-times}
use Rattle.mf_field.proofs.Powers.{power-lt, power-add, power-mul, power_of_one}

pub two_period : power 2 255 ≡ 1
unfolding power times carryless remainder
two_period = refl

pub two_mod : (e : ℕ) → power 2 (e % 255) ≡ power 2 e
two_mod e =
    sym (ap (power 2) (sym (div-add-mod' e 255)) ∙ power-add 2 (e / 255 * 255) (e % 255) (omega arith)
    ∙ ap (λ (v : ℕ). times v (power 2 (e % 255)))
    (ap (power 2) (mul_comm (e / 255) 255) ∙ power-mul 2 255 (e / 255) (omega arith)
    ∙ ap (λ (v : ℕ). power v (e / 255)) two_period ∙ power_of_one (e / 255))
    ∙ one-times (power 2 (e % 255)) (power-lt 2 (e % 255) (omega arith)))

-- ---- what the calls compute

-- the product from exponents
pub product_from : (a b i j r : ℕ) → power 2 i ≡ a → power 2 j ≡ b → r ≡ power 2 (i + j) → r ≡ times a b
product_from a b i j r p q is = is ∙ power-add 2 i j (omega arith) ∙ ap₂ times p q

pub zero_from : (a b : ℕ) → (a ≡ 0) ⊎ (b ≡ 0) → 0 ≡ times a b
zero_from a b (inl z) = sym (ap (λ (v : ℕ). times v b) z ∙ zero-times b)
zero_from a b (inr z) = sym (ap (times a) z ∙ times-zero a)

-- the power from an exponent
pub power_from : (a e i r : ℕ) → power 2 i ≡ a → r ≡ power 2 (i * e % 255) → r ≡ power a e
power_from a e i r p is = is ∙ two_mod (i * e) ∙ power-mul 2 i e (omega arith) ∙ ap (λ (v : ℕ). power v e) p

pub power_none : (a e : ℕ) → e ≡ 0 → 1 ≡ power a e
unfolding power
power_none a e z = sym (ap (power a) z)

pub power_of_zero : (a e : ℕ) → a ≡ 0 → 0 < e → 0 ≡ power a e
unfolding power
power_of_zero a zero z pos = absurd (omega arith)
power_of_zero a (suc e) z pos = sym (ap (times (power a e)) z ∙ times-zero (power a e))

-- the inverse from an exponent
pub inverse_from : (a i r : ℕ) → power 2 i ≡ a → i < 255 → r ≡ power 2 (255 - i) → times a r ≡ 1
inverse_from a i r p lt is =
    ap₂ times (sym p) is ∙ sym (power-add 2 i (255 - i) (omega arith))
    ∙ ap (power 2) (let e : i + (255 - i) ≡ 255 = omega arith in e) ∙ two_period
