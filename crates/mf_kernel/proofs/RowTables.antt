-- The tables of a row, coefficient by coefficient.
use Rattle.std.proofs.Common.{◌≡◌, ℕ, ◌+◌, ◌*◌, ◌^◌, ◌<◌, ◌≤◌, List, length, get_or, inl, inr, sym, ap, ◌∙◌, arith}
use Rattle.std.proofs.lemmas.Bool.{cases_lt}
use Rattle.std.proofs.lemmas.Simd.{get_or-put_chunk_at}
use lib.Lanes.{put_chunk}
use Rattle.mf_code.specs.Field.{times}
use Rattle.mf_kernel.proofs.Tables.{below_written}

-- the entries of coefficient u
abbrev pub HasEntries : List ℕ → List ℕ → ℕ → ℕ → Type 0
HasEntries row tables u n =
    (get_or tables (u * 32 + n) 0 ≡ times (get_or row u 0) n)
    × (get_or tables (u * 32 + 16 + n) 0 ≡ times (get_or row u 0) (n * 2 ^ 4))

-- the tables of one more coefficient
pub entries_more : (t c : ℕ) (row before after lanes : List ℕ) → t * 32 + 32 ≤ length before → length lanes ≡ 32
    → after ≡ put_chunk (t * 32) before lanes → c ≡ get_or row t 0
    → ((n : ℕ) → n < 16 → get_or lanes n 0 ≡ times c n)
    → ((n : ℕ) → n < 16 → get_or lanes (16 + n) 0 ≡ times c (n * 2 ^ 4))
    → ((u n : ℕ) → u < t → n < 16 → HasEntries row before u n)
    → (u n : ℕ) → u < t + 1 → n < 16 → HasEntries row after u n
entries_more t c row before after lanes room long are is lower upper so_far u n lu ln = elim (cases_lt u t) [
  | inl below ↦
      let old = so_far u n below ln in (
        below_written (t * 32) before after lanes are (u * 32 + n) (omega arith) ∙ old.0,
        below_written (t * 32) before after lanes are (u * 32 + 16 + n) (omega arith) ∙ old.1,
      )
  | inr high ↦
      let same : u ≡ t = omega arith in
      let first : u * 32 + n ≡ t * 32 + n = omega arith in
      let second : u * 32 + 16 + n ≡ t * 32 + (16 + n) = omega arith in
      let value : c ≡ get_or row u 0 = is ∙ ap (λ (k : ℕ). get_or row k 0) (sym same) in (
        ap (λ (xs : List ℕ). get_or xs (u * 32 + n) 0) are
            ∙ ap (λ (k : ℕ). get_or (put_chunk (t * 32) before lanes) k 0) first
            ∙ get_or-put_chunk_at (t * 32) before lanes n 0 (omega arith) (omega arith)
            ∙ lower n ln ∙ ap (λ (f : ℕ). times f n) value,
        ap (λ (xs : List ℕ). get_or xs (u * 32 + 16 + n) 0) are
            ∙ ap (λ (k : ℕ). get_or (put_chunk (t * 32) before lanes) k 0) second
            ∙ get_or-put_chunk_at (t * 32) before lanes (16 + n) 0 (omega arith) (omega arith)
            ∙ upper n ln ∙ ap (λ (f : ℕ). times f (n * 2 ^ 4)) value,
      )
]
