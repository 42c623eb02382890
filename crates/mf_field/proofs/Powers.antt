-- The laws of powers.
use Rattle.std.proofs.Common.{◌≡◌, ℕ, zero, suc, ◌+◌, ◌*◌, ◌<◌, refl, sym, ap, ◌∙◌, arith, add-zero, add-suc, mul-suc}
use Rattle.std.proofs.Common.{mul-zero}
use Rattle.mf_code.specs.Field.{times, power}
use Rattle.mf_field.proofs.FieldLaws.{times-lt, times_assoc, times-one, one-times, times-pos, times_swap}

pub power-lt : (a e : ℕ) → a < 256 → power a e < 256
unfolding power
power-lt a zero la = omega arith
power-lt a (suc e) la = times-lt (power a e) a (power-lt a e la) la

pub power-pos : (a e : ℕ) → 0 < a → a < 256 → 0 < power a e
unfolding power
power-pos a zero pos la = omega arith
power-pos a (suc e) pos la = times-pos (power a e) a (power-pos a e pos la) (power-lt a e la) pos la

-- a power of a sum of exponents
pub power-add : (a m n : ℕ) → a < 256 → power a (m + n) ≡ times (power a m) (power a n)
unfolding power
power-add a m zero la = ap (power a) (add-zero m) ∙ sym (times-one (power a m) (power-lt a m la))
power-add a m (suc n) la =
    ap (power a) (add-suc m n) ∙ ap (λ (v : ℕ). times v a) (power-add a m n la)
    ∙ times_assoc (power a m) (power a n) a (power-lt a m la) (power-lt a n la) la

-- a power of a product of exponents
pub power-mul : (a m n : ℕ) → a < 256 → power a (m * n) ≡ power (power a m) n
unfolding power
power-mul a m zero la = ap (power a) (mul-zero m)
power-mul a m (suc n) la =
    ap (power a) (mul-suc m n) ∙ power-add a (m * n) m la ∙ ap (λ (v : ℕ). times v (power a m)) (power-mul a m n la)

-- a power of a product
pub power-times : (a b e : ℕ) → a < 256 → b < 256 → power (times a b) e ≡ times (power a e) (power b e)
unfolding power
power-times a b zero la lb = sym (one-times 1 (omega arith))
power-times a b (suc e) la lb =
    let pa = power a e in
    let pb = power b e in
    ap (λ (v : ℕ). times v (times a b)) (power-times a b e la lb)
    ∙ times_assoc pa pb (times a b) (power-lt a e la) (power-lt b e lb) (times-lt a b la lb)
    ∙ ap (times pa) (times_swap pb a b (power-lt b e lb) la lb)
    ∙ sym (times_assoc pa a (times pb b) (power-lt a e la) la (times-lt pb b (power-lt b e lb) lb))

pub power_of_one : (e : ℕ) → power 1 e ≡ 1
unfolding power
power_of_one zero = refl
power_of_one (suc e) = times-one (power 1 e) (power-lt 1 e (omega arith)) ∙ power_of_one e
