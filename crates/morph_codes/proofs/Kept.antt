-- Rows that stand one behind the other.
use Rattle.std.proofs.Common.{◌≡◌, ℕ, ◌+◌, ◌-◌, ◌*◌, ◌<◌, ◌≤◌, List, ◌++◌, length, take, drop, inl, inr, sym, ap, ◌∙◌}
use Rattle.std.proofs.Common.{subst, arith, add-mul, mul-le-mul_right}
use Rattle.std.proofs.Math.Seq.{drop-append_seam}
use Rattle.std.proofs.lemmas.Bool.{cases_lt}
use Rattle.std.proofs.lemmas.List.{length-append, length-drop, take_all, take-append-le, drop-append-le}
use Rattle.morph_codes.specs.Decoded.{row_at}

-- a row that isn't the last ends where the next one begins
pub row_ends : (n i e : ℕ) → i < e → i * n + n ≤ e * n
row_ends n i e lt = omega (arith, add-mul i 1 n, mul-le-mul_right n (let more : i + 1 ≤ e = omega arith in more))

row_kept : (n i e : ℕ) (rows row : List ℕ) → length rows ≡ e * n → i < e → row_at n (rows ++ row) i ≡ row_at n rows i
row_kept n i e rows row long lt =
    let ends = row_ends n i e lt in
    ap (take (i * n + n - i * n)) (drop-append-le (i * n) rows row (omega arith))
    ∙ take-append-le (i * n + n - i * n) (drop (i * n) rows) row (omega (arith, length-drop (i * n) rows))

row_new : (n e : ℕ) (rows row : List ℕ) → length rows ≡ e * n → length row ≡ n → row_at n (rows ++ row) e ≡ row
row_new n e rows row long fits =
    ap (λ (k : ℕ). take (e * n + n - e * n) (drop k (rows ++ row))) (sym long)
    ∙ ap (take (e * n + n - e * n)) (drop-append_seam rows row) ∙ take_all (e * n + n - e * n) row (omega arith)

-- one more row
pub rows_more : (P : ℕ → List ℕ → Type 0) (n e : ℕ) (rows row after : List ℕ) → length rows ≡ e * n
    → length row ≡ n → after ≡ rows ++ row → P e row → ((i : ℕ) → i < e → P i (row_at n rows i))
    → (length after ≡ (e + 1) * n) × ((i : ℕ) → i < e + 1 → P i (row_at n after i))
rows_more P n e rows row after long fits are here so_far = (
  omega (arith, ap length are, length-append rows row, add-mul e 1 n),
  λ i lt. subst (λ (l : List ℕ). P i (row_at n l i)) (sym are) (elim (cases_lt i e) [
    | inl below ↦ subst (P i) (sym (row_kept n i e rows row long below)) (so_far i below)
    | inr high ↦
        let same : i ≡ e = omega arith in
        subst (λ (k : ℕ). P k (row_at n (rows ++ row) k)) (sym same)
        (subst (P e) (sym (row_new n e rows row long fits)) here)
  ]),
)
