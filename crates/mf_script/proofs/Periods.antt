-- Patterns, made of their periods.
use Rattle.std.proofs.Common.{◌≡◌, ℕ, zero, suc, ◌+◌, ◌*◌, ◌%◌, ◌≤◌, ◌++◌, ◌∷◌, [], sym, ap, ◌∙◌, arith, take}
use Rattle.std.proofs.Math.Nat.{add-mul-mod_self_right}
use Rattle.std.proofs.lemmas.List.{append-nil, append_assoc}
use Rattle.std.proofs.lemmas.List.FromFn.{map-range_with_len_more, take-map-range_with_len}
use Rattle.mf_script.specs.Contents.{pattern_bytes}

-- a byte is that of the period before
same_byte : (k m s : ℕ) → (m + s) % 251 ≡ (k * 251 + m + s) % 251
same_byte k m s =
    let e : m + s + k * 251 ≡ k * 251 + m + s = omega arith in
    sym (add-mul-mod_self_right (m + s) k 251) ∙ ap (λ n. n % 251) e

-- a byte more
longer : (m s : ℕ) → pattern_bytes (m + 1) s ≡ pattern_bytes m s ++ (m + s) % 251 ∷ []
longer m s = map-range_with_len_more (λ x. (x + s) % 251) 0 m m (omega arith)

-- the front of a pattern behind whole periods
pub periods : (k m s : ℕ) → pattern_bytes (k * 251) s ++ pattern_bytes m s ≡ pattern_bytes (k * 251 + m) s
periods k zero s =
    let e : k * 251 ≡ k * 251 + 0 = omega arith in
    append-nil (pattern_bytes (k * 251) s) ∙ ap (λ n. pattern_bytes n s) e
periods k (suc m) s =
    let one : suc m ≡ m + 1 = omega arith in
    let all : k * 251 + m + 1 ≡ k * 251 + suc m = omega arith in
    ap (λ n. pattern_bytes (k * 251) s ++ pattern_bytes n s) one
    ∙ ap (λ l. pattern_bytes (k * 251) s ++ l) (longer m s)
    ∙ sym (append_assoc (pattern_bytes (k * 251) s) (pattern_bytes m s) ((m + s) % 251 ∷ []))
    ∙ ap (λ l. l ++ (m + s) % 251 ∷ []) (periods k m s)
    ∙ ap (λ b. pattern_bytes (k * 251 + m) s ++ b ∷ []) (same_byte k m s)
    ∙ sym (longer (k * 251 + m) s)
    ∙ ap (λ n. pattern_bytes n s) all

-- the front of the first period
pub front : (m s : ℕ) → m ≤ 251 → take m (pattern_bytes 251 s) ≡ pattern_bytes m s
front m s h = take-map-range_with_len (λ x. (x + s) % 251) 0 251 m h
