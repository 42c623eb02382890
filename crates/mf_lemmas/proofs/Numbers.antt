-- Exclusive or, which is the sum of bytes.
use Rattle.std.proofs.Common.{◌≡◌, ℕ, ◌*◌, ◌/◌, ◌%◌, ◌^◌, bit_xor, sym, ap, ap₂, ◌∙◌, add-zero, mod-lt, div-add-mod'}
use Rattle.std.proofs.Common.{pow_pos}
use Rattle.std.specs.Int.Bits.{xor_assoc, xor_zero_l, xor_zero_r, xor_self, xor_shifted}
use Rattle.std.proofs.lemmas.Nat.{xor_comm, xor_block}

-- numbers whose sum is zero are equal
pub equal_from_sum : (a b : ℕ) → bit_xor a b ≡ 0 → a ≡ b
equal_from_sum a b e = sym (xor_zero_r a) ∙ ap (bit_xor a) (sym (xor_self b)) ∙ sym (xor_assoc a b b)
    ∙ ap (λ v. bit_xor v b) e ∙ xor_zero_l b

pub sum_from_equal : (a b : ℕ) → a ≡ b → bit_xor a b ≡ 0
sum_from_equal a b e = ap (λ v. bit_xor v b) e ∙ xor_self b

-- the middle two of four, exchanged
pub xor_swap : (a b c d : ℕ) → bit_xor (bit_xor a b) (bit_xor c d) ≡ bit_xor (bit_xor a c) (bit_xor b d)
xor_swap a b c d =
    xor_assoc a b (bit_xor c d)
    ∙ ap (bit_xor a) (sym (xor_assoc b c d) ∙ ap (λ (x : ℕ). bit_xor x d) (xor_comm b c) ∙ xor_assoc c b d)
    ∙ sym (xor_assoc a c (bit_xor b d))

-- exclusive or of shifted numbers
pub xor_shl : (n a b : ℕ) → bit_xor a b * 2 ^ n ≡ bit_xor (a * 2 ^ n) (b * 2 ^ n)
xor_shl n a b =
    sym (add-zero (bit_xor a b * 2 ^ n)) ∙ sym (xor_block n a b 0 0 (pow_pos n) (pow_pos n))
    ∙ ap₂ bit_xor (add-zero (a * 2 ^ n)) (add-zero (b * 2 ^ n))

-- a number of n + 1 bits is its highest bit and the rest
pub high_and_rest : (n x : ℕ) → bit_xor (x / 2 ^ n * 2 ^ n) (x % 2 ^ n) ≡ x
high_and_rest n x = xor_shifted (x / 2 ^ n) n (x % 2 ^ n) (mod-lt x (pow_pos n)) ∙ div-add-mod' x (2 ^ n)
