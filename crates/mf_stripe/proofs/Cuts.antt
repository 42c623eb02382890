-- A file's bytes, cut into chunks and joined again.
use Rattle.std.proofs.Common.{◌≡◌, ℕ, zero, suc, ◌+◌, ◌-◌, ◌*◌, ◌<◌, ◌≤◌, min, List, [], ◌∷◌, ◌++◌, length, take, drop}
use Rattle.std.proofs.Common.{replicate, map, get_or, refl, ap, ap₂, ◌∙◌, sym, ⊎_elim, arith, All}
use Rattle.std.proofs.lemmas.Bool.{cases_lt}
use Rattle.std.proofs.lemmas.List.{length-take, length-drop, length-append, length-replicate, get_or-replicate}
use Rattle.std.proofs.lemmas.List.{get_or_append_left, get_or-append_right, get_or-take, get_or-drop, get_or_past}
use Rattle.std.proofs.lemmas.List.{take_all, take-take, take_at, take-append-le, take-append-drop, take-map}
use Rattle.std.proofs.lemmas.List.{take-replicate, take_min, take_more, get_or_default, append_assoc, drop-drop}
use Rattle.std.proofs.lemmas.List.{drop-map, drop-append-le, append-nil}
use Rattle.std.proofs.lemmas.List.FromFn.{map-range_with_len_more, length-map-range_with_len}
use Rattle.std.proofs.lemmas.Grind.{div_ceil_times}
use Rattle.std.proofs.Math.Nat.{mul-le-mul_right}
use Rattle.std.proofs.lemmas.List.Elements.{All-map}
use Rattle.std.specs.List.{concat, range_with_len}
use Rattle.mf_lemmas.proofs.Parts.{take-append, take-add, drop-range, take-range, concat-append}
use Rattle.mf_code.specs.Chunks.{chunk, chunks, chunk_count}
use Rattle.mf_code.specs.Stripes.{stripe}
use Rattle.mf_code.proofs.Lists.{list_of_from, length-chunk}

-- ---- one chunk

abbrev zeros : ℕ → List ℕ
zeros n = replicate n 0

-- a file with zero bytes behind it
abbrev padded : List ℕ → ℕ → List ℕ
padded file more = file ++ zeros more

padded_at : (file : List ℕ) (more x : ℕ) → x < length file + more → get_or (padded file more) x 0 ≡ get_or file x 0
padded_at file more x lt = ⊎_elim
    (λ within. get_or_append_left file (replicate more 0) 0 x within)
    (λ past. get_or-append_right file (replicate more 0) (length file) x 0 refl past
    ∙ get_or-replicate more (x - length file) 0 0 (omega arith) ∙ sym (get_or_past file x 0 past))
    (cases_lt x (length file))

-- a chunk is a part of it
pub chunk-padded : (size : ℕ) (file : List ℕ) (i more : ℕ) → (i + 1) * size ≤ length file + more
    → chunk size file i ≡ take size (drop (i * size) (padded file more))
unfolding chunk
chunk-padded size file i more room =
    sym (list_of_from size (λ x. get_or file (i * size + x) 0) (take size (drop (i * size) (padded file more)))
    (omega (
      arith,
      length-take size (drop (i * size) (padded file more)),
      length-drop (i * size) (padded file more),
      length-append file (replicate more 0),
      length-replicate {A = ℕ} more 0,
    ))
    (λ x lt. get_or-take size (drop (i * size) (padded file more)) x 0 lt
    ∙ get_or-drop (i * size) (padded file more) x 0
    ∙ padded_at file more (i * size + x) (omega arith)))

-- the bytes from chunk i on, at most `size` of them, with zero bytes behind
pub chunk-filled : (size : ℕ) (file : List ℕ) (i : ℕ) (part : List ℕ) → i * size ≤ length file
    → part ≡ take size (drop (i * size) file)
    → part ++ zeros (size - length part) ≡ chunk size file i
chunk-filled size file i part from is =
    let rest = drop (i * size) file in
    let short : size - length rest ≡ size - length part = omega (arith, ap length is, length-take size rest) in
    sym (chunk-padded size file i size (omega arith)
    ∙ ap (take size) (drop-append-le (i * size) file (zeros size) from)
    ∙ take-append size rest (zeros size)
    ∙ ap₂ (λ a b. a ++ b) (sym is) (take-replicate (size - length rest) size 0 (omega arith)
    ∙ ap (λ k. replicate k 0) short))

-- ---- the chunks of a stripe

pub stripe-slice : (size : ℕ) (file : List ℕ) (width j end : ℕ)
    → end ≡ min ((j + 1) * width) (chunk_count size (length file)) → j * width ≤ end
    → take (end - j * width) (drop (j * width) (chunks size file)) ≡ stripe size file width j
unfolding chunks stripe
stripe-slice size file width j end is from =
    let m = chunk_count size (length file) in
    let s = j * width in
    let f = chunk size file in
    let n : end - s ≡ min ((j + 1) * width) m - s = omega arith in
    ap (take (end - s)) (drop-map f s (range_with_len 0 m) ∙ ap (map f) (drop-range s 0 m))
    ∙ take-map f (end - s) (range_with_len (0 + s) (m - s))
    ∙ ap (map f) (take-range (end - s) (0 + s) (m - s) (omega arith) ∙ ap₂ range_with_len (omega arith) n)

-- ---- the bytes of a stripe

-- the chunks from a on, n of them, are a part of the padded file
group-joined : (size : ℕ) (file : List ℕ) (a n more : ℕ) → (a + n) * size ≤ length file + more
    → concat (map (chunk size file) (range_with_len a n)) ≡ take (n * size) (drop (a * size) (padded file more))
group-joined size file a zero more room = ap (λ k. take k (drop (a * size) (padded file more))) (let e : 0 ≡ 0 * size =
    omega arith in e)
group-joined size file a (suc n) more room =
    let f = chunk size file in
    let D = drop (a * size) (padded file more) in
    let e : suc n ≡ n + 1 = omega arith in
    let at : a * size + n * size ≡ (a + n) * size = omega arith in
    let all : n * size + size ≡ suc n * size = omega arith in
    ap (λ k. concat (map f (range_with_len a k))) e
    ∙ ap concat (map-range_with_len_more f a n (a + n) refl)
    ∙ concat-append (map f (range_with_len a n)) (f (a + n) ∷ [])
    ∙ ap₂ (λ x y. x ++ y) (group-joined size file a n more (omega arith))
    (append-nil (f (a + n)) ∙ chunk-padded size file (a + n) more (omega arith)
    ∙ ap (take size) (ap (λ k. drop k (padded file more)) (sym at)
    ∙ sym (drop-drop (n * size) (a * size) (padded file more))))
    ∙ sym (take-add (n * size) size D) ∙ ap (λ k. take k D) all

-- behind the bytes before, cut at the file's length
group-cut : (size : ℕ) (file : List ℕ) (a n : ℕ) → a * size ≤ length file
    → take (length file) (take (a * size) file ++ concat (map (chunk size file) (range_with_len a n)))
    ≡ take ((a + n) * size) file
group-cut size file a n from =
    let more = (a + n) * size in
    let P = padded file more in
    let len = length file in
    let both : a * size + n * size ≡ (a + n) * size = omega arith in
    let whole : take (a * size) file ++ concat (map (chunk size file) (range_with_len a n)) ≡ take ((a + n) * size) P =
    ap₂ (λ x y. x ++ y) (sym (take-append-le (a * size) file (replicate more 0) from))
    (group-joined size file a n more (omega arith))
    ∙ sym (take-add (a * size) (n * size) P) ∙ ap (λ k. take k P) both in
    ap (take len) whole ∙ ⊎_elim
    (λ inside. take_all len (take ((a + n) * size) P) (omega (arith, length-take ((a + n) * size) P))
    ∙ take-append-le ((a + n) * size) file (replicate more 0) (omega arith))
    (λ past. take-take len ((a + n) * size) P past ∙ take_at file (replicate more 0) len refl
    ∙ sym (take_all ((a + n) * size) file past))
    (cases_lt ((a + n) * size) len)

-- a file's bytes up to a stripe, and the stripe's, cut at the file's length
pub stripe-joined : (size : ℕ) (file : List ℕ) (width j : ℕ) (out : List ℕ) → 1 ≤ size
    → out ≡ take (j * width * size) file
    → take (length file) (out ++ concat (stripe size file width j)) ≡ take ((j + 1) * width * size) file
unfolding stripe
stripe-joined size file width j out pos is =
    let m = chunk_count size (length file) in
    let a = j * width in
    let n = min ((j + 1) * width) m - a in
    let times = div_ceil_times (length file) size pos in
    ap (λ xs. take (length file) (xs ++ concat (map (chunk size file) (range_with_len a n)))) is
    ∙ ⊎_elim
    (λ some.
    let low : suc a * size ≤ m * size = mul-le-mul_right size some in
    group-cut size file a n (omega (arith, times.0, times.1)) ∙ ⊎_elim
    (λ full. ap (λ k. take (k * size) file) (let e : a + n ≡ (j + 1) * width = omega arith in e))
    (λ short.
    let e : a + n ≡ m = omega arith in
    let more : m * size ≤ (j + 1) * width * size = mul-le-mul_right size short in
    ap (λ k. take (k * size) file) e ∙ take_all (m * size) file times.0
    ∙ sym (take_all ((j + 1) * width * size) file (omega (arith, times.0))))
    (cases_lt ((j + 1) * width) m))
    (λ none.
    let e : n ≡ 0 = omega arith in
    let low : m * size ≤ a * size = mul-le-mul_right size none in
    let high : a * size ≤ (j + 1) * width * size = mul-le-mul_right size (let h : a ≤ (j + 1) * width =
    omega arith in h) in
    ap (λ k. take (length file) (take (a * size) file ++ concat (map (chunk size file) (range_with_len a k)))) e
    ∙ ap (take (length file)) (append-nil (take (a * size) file) ∙ take_all (a * size) file (omega (arith, times.0)))
    ∙ take_all (length file) file (omega arith) ∙ sym (take_all ((j + 1) * width * size) file (omega (arith, times.0))))
    (cases_lt a m)

pub length-chunks : (size : ℕ) (file : List ℕ) → length (chunks size file) ≡ chunk_count size (length file)
unfolding chunks
length-chunks size file = length-map-range_with_len (chunk size file) 0 (chunk_count size (length file))

-- ---- a loop that joins pieces

concat-more : (pieces : List (List ℕ)) (i : ℕ) → i < length pieces
    → concat (take (i + 1) pieces) ≡ concat (take i pieces) ++ get_or pieces i []
concat-more pieces i lt =
    ap concat (take_more pieces i [] lt) ∙ concat-append (take i pieces) (get_or pieces i [] ∷ [])
    ∙ ap (λ ys. concat (take i pieces) ++ ys) (append-nil (get_or pieces i []))

-- one piece more, as far as there is room
pub join-more : (most i : ℕ) (before out piece : List ℕ) (pieces : List (List ℕ)) (d : List ℕ) (k : ℕ)
    → i < length pieces → piece ≡ get_or pieces i d
    → out ≡ take most (before ++ concat (take i pieces)) → k ≡ min (most - length out) (length piece)
    → out ++ take k piece ≡ take most (before ++ concat (take (i + 1) pieces))
join-more most i before out piece pieces d k lt at is room =
    let so_far = before ++ concat (take i pieces) in
    let long = length-take most so_far in
    let left : most - length out ≡ most - length so_far = omega (arith, ap length is) in
    ap₂ (λ a b. a ++ b) is
    (ap (λ n. take n piece) room ∙ take_min (most - length out) piece ∙ ap (λ n. take n piece) left
    ∙ ap (take (most - length so_far)) (at ∙ get_or_default pieces i d [] lt))
    ∙ sym (take-append most so_far (get_or pieces i []))
    ∙ ap (take most) (append_assoc before (concat (take i pieces)) (get_or pieces i [])
    ∙ ap (λ ys. before ++ ys) (sym (concat-more pieces i lt)))

-- what is joined so far is a front of the whole
pub join-front : (most i : ℕ) (before out : List ℕ) (pieces : List (List ℕ))
    → out ≡ take most (before ++ concat (take i pieces))
    → out ≡ take (length out) (take most (before ++ concat pieces))
join-front most i before out pieces is =
    let so_far = before ++ concat (take i pieces) in
    let rest = concat (drop i pieces) in
    let whole : before ++ concat pieces ≡ so_far ++ rest =
    ap (λ ps. before ++ concat ps) (sym (take-append-drop i pieces))
    ∙ ap (λ ys. before ++ ys) (concat-append (take i pieces) (drop i pieces))
    ∙ sym (append_assoc before (concat (take i pieces)) rest) in
    is ∙ sym (take_at (take most so_far) (take (most - length so_far) rest) (length out) (ap length (sym is)))
    ∙ ap (take (length out)) (sym (ap (take most) whole ∙ take-append most so_far rest))

-- ---- a loop that cuts

-- one chunk more
pub cut-more : (size : ℕ) (file : List ℕ) (i end : ℕ) (cut made : List (List ℕ)) (one : List ℕ)
    → i < chunk_count size (length file) → 1 ≤ size
    → end ≡ min (length file) (i * size + size) → one ≡ take (end - i * size) (drop (i * size) file)
    ++ replicate (size - length (take (end - i * size) (drop (i * size) file))) 0
    → cut ≡ map (chunk size file) (range_with_len 0 i) → made ≡ cut ++ one ∷ []
    → made ≡ map (chunk size file) (range_with_len 0 (i + 1))
cut-more size file i end cut made one lt pos to is so_far pushed =
    let times = div_ceil_times (length file) size pos in
    let low : suc i * size ≤ chunk_count size (length file) * size = mul-le-mul_right size lt in
    let from : i * size ≤ length file = omega (arith, times.1) in
    let rest = drop (i * size) file in
    let n : end - i * size ≡ min size (length rest) = omega (arith, length-drop (i * size) file) in
    pushed ∙ ap₂ (λ xs x. xs ++ x ∷ []) so_far
    (is ∙ chunk-filled size file i (take (end - i * size) rest) from (ap (λ k. take k rest) n ∙ take_min size rest))
    ∙ sym (map-range_with_len_more (chunk size file) 0 i i (omega arith))

pub cut-all : (size : ℕ) (file : List ℕ) (n : ℕ) (cut : List (List ℕ)) → n ≡ chunk_count size (length file)
    → cut ≡ map (chunk size file) (range_with_len 0 n) → cut ≡ chunks size file
unfolding chunks
cut-all size file n cut end is = is ∙ ap (λ k. map (chunk size file) (range_with_len 0 k)) end

pub lengths-chunks : (size : ℕ) (file : List ℕ) → All (λ piece. length piece ≡ size) (chunks size file)
unfolding chunks
lengths-chunks size file = All-map (λ piece. length piece
    ≡ size) (chunk size file) (range_with_len 0 (chunk_count size (length file)))
    (λ k d lt. length-chunk size file (get_or (range_with_len 0 (chunk_count size (length file))) k d))
