-- Rising lists of numbers.
use Rattle.std.proofs.Common.{◌≢◌, ℕ, zero, suc, ◌+◌, ◌<◌, ◌≤◌, List, [], ◌∷◌, length, get_or, arith}

-- rising numbers from low on and below high
pub record Rises (low high : ℕ) (xs : List ℕ) : Type 0 where
  pub from : (j : ℕ) → j < length xs → low ≤ get_or xs j 0
  pub below : (j : ℕ) → j < length xs → get_or xs j 0 < high
  pub rise : (i j : ℕ) → i < j → j < length xs → get_or xs i 0 < get_or xs j 0

pub rises_none : (low high : ℕ) → Rises low high []
rises_none low high =
    record {
      from = λ j l. absurd (omega arith);
      below = λ j l. absurd (omega arith);
      rise =
          λ i j l m. absurd (omega arith);
    }

pub rises_cons : (low high x : ℕ) (xs : List ℕ) → low ≤ x → x < high → Rises (x + 1) high xs → Rises low high (x ∷ xs)
rises_cons low high x xs le lt r = record { from = from; below = below; rise = rise }
  where
    from : (j : ℕ) → j < length (x ∷ xs) → low ≤ get_or (x ∷ xs) j 0
    from zero l = le
    from (suc j) l = let h = r.from j (omega arith) in omega arith

    below : (j : ℕ) → j < length (x ∷ xs) → get_or (x ∷ xs) j 0 < high
    below zero l = lt
    below (suc j) l = r.below j (omega arith)

    rise : (i j : ℕ) → i < j → j < length (x ∷ xs) → get_or (x ∷ xs) i 0 < get_or (x ∷ xs) j 0
    rise i zero l m = absurd (omega arith)
    rise zero (suc j) l m = let h = r.from j (omega arith) in omega arith
    rise (suc i) (suc j) l m = r.rise i j (omega arith) (omega arith)

pub rises_tail : (low high x : ℕ) (xs : List ℕ) → Rises low high (x ∷ xs) → Rises (x + 1) high xs
rises_tail low high x xs r = record {
  from = λ j l. (let h = r.rise 0 (suc j) (omega arith) (omega arith) in omega arith);
  below = λ j l. r.below (suc j) (omega arith);
  rise = λ i j l m. r.rise (suc i) (suc j) (omega arith) (omega arith);
}

-- rising numbers of which the first is another than low
pub rises_above : (low high x : ℕ) (xs : List ℕ) → x ≢ low → Rises low high (x ∷ xs) → Rises (low + 1) high (x ∷ xs)
rises_above low high x xs ne r =
    let first : low ≤ x = r.from 0 (omega arith) in
    let more : low + 1 ≤ x = omega arith in
    rises_cons (low + 1) high x xs more (r.below 0 (omega arith)) (rises_tail low high x xs r)

-- rising numbers from another low on
pub rises_wider : (low lower high : ℕ) (xs : List ℕ) → lower ≤ low → Rises low high xs → Rises lower high xs
rises_wider low lower high xs le r =
    record { from = λ j l. (let h = r.from j l in omega arith); below = r.below; rise = r.rise }
