-- Bytes that are made span by span.
use Rattle.std.proofs.Common.{◌≡◌, ℕ, ◌+◌, ◌-◌, ◌<◌, ◌≤◌, List, ◌++◌, length, get_or, take, drop, ap, ◌∙◌, arith}
use Rattle.std.proofs.Common.{⊎_elim}
use Rattle.std.proofs.lemmas.Bool.{cases_lt}
use Rattle.std.proofs.lemmas.List.{get_or_append_left, get_or-append_right, get_or-take, length-take-le}
use Rattle.std.proofs.lemmas.List.{length-append, length-drop, take_at}
use Rattle.mf_code.specs.Rows.{list_of, column}
use Rattle.mf_code.proofs.Lists.{length-list_of, list_of_at, list_of_from}
use Rattle.mf_kernel.specs.Dots.{dot, combined}
use Rattle.morph_codes.specs.Handed.{written}

-- the first n bytes are those of the sum by the row
abbrev pub IsFront : List ℕ → List (List ℕ) → ℕ → List ℕ → Type 0
IsFront row pieces n bytes = (x : ℕ) → x < n → get_or bytes x 0 ≡ dot row (column x pieces)

pub length-written : (start : ℕ) (block bytes : List ℕ) → start + length block ≤ length bytes
    → length (written start block bytes) ≡ length bytes
length-written start block bytes room =
    omega (
      arith,
      length-append (take start bytes) (block ++ drop (start + length block) bytes),
      length-append block (drop (start + length block) bytes),
      length-take-le start bytes (let le : start ≤ length bytes = omega arith in le),
      length-drop (start + length block) bytes,
    )

-- a span more is made
pub span_more : (row : List ℕ) (pieces : List (List ℕ)) (start count n : ℕ) (block old after : List ℕ)
    → start ≤ length old → n ≡ count → block ≡ list_of n (λ x. dot row (column (start + x) pieces))
    → after ≡ written start block old → IsFront row pieces start old → IsFront row pieces (start + count) after
span_more row pieces start count n block old after room long made are so_far x lt =
    let f = λ (k : ℕ). dot row (column k pieces) in
    let rest = drop (start + length block) old in
    let front : length (take start old) ≡ start = length-take-le start old room in
    let here : length block ≡ n = ap length made ∙ length-list_of n (λ y. f (start + y)) in
    ap (λ (l : List ℕ). get_or l x 0) are
    ∙ ⊎_elim
    (λ (h : x < start). get_or_append_left (take start old) (block ++ rest) 0 x (omega arith)
    ∙ get_or-take start old x 0 h ∙ so_far x h)
    (λ (h : start ≤ x). get_or-append_right (take start old) (block ++ rest) start x 0 front h
    ∙ get_or_append_left block rest 0 (x - start) (omega arith)
    ∙ ap (λ (l : List ℕ). get_or l (x - start) 0) made
    ∙ list_of_at n (λ y. f (start + y)) (x - start) (omega arith)
    ∙ ap f (let e : start + (x - start) ≡ x = omega arith in e))
    (cases_lt x start)

-- a room that is made to its end is the sum
pub front_all : (row : List ℕ) (pieces : List (List ℕ)) (n size : ℕ) (bytes : List ℕ) → length bytes ≡ size → size ≤ n
    → IsFront row pieces n bytes → bytes ≡ combined size pieces row
front_all row pieces n size bytes long all front = list_of_from size (λ x. dot row (column x pieces)) bytes long
    (λ x lt. front x (omega arith))

-- the front of an array of which so many bytes are made
pub block_is : (f : ℕ → ℕ) (count n : ℕ) (made rest : List ℕ) → n ≡ count → made ≡ list_of n f
    → take count (made ++ rest) ≡ list_of n f
block_is f count n made rest long are = take_at made rest count (ap length are ∙ length-list_of n f ∙ long) ∙ are
