-- How many names and how many entries there can be.
use Rattle.std.proofs.Common.{◌≡◌, ℕ, zero, suc, ◌+◌, ◌*◌, ◌<◌, ◌≤◌, Bool, true, false, cond, List, [], ◌∷◌, length}
use Rattle.std.proofs.Common.{filter, refl, sym}
use Rattle.std.proofs.Common.{subst, arith, leb, rules}
use Rattle.std.specs.Int.{div_ceil}
use Rattle.std.proofs.lemmas.Grind.{div_ceil_times}
use native.Mathlib.Decide.{ℕ_discrete}
use mathlib.Core.Logic.{dite}
use Rattle.std.proofs.Math.Nat.{lt_of_mul-lt-mul_right}
use Rattle.std.proofs.lemmas.Nat.{mul-le}
use Rattle.mf_shape.specs.declared.Stage.{Stage}
use Rattle.mf_shape.specs.Stages.{copies_at, max_width}
use Rattle.mf_shape.specs.Chain.{IsChain}
use Rattle.mf_shape.proofs.Widths.{max_width-le-limit}
use Rattle.mf_places.specs.declared.Name.{Name}
use Rattle.mf_places.specs.Facts.{BookFacts, IsBook, chunks_of}
use Rattle.mf_places.specs.Names.{count_of, all_names, max_parities}
use Rattle.mf_places.specs.Numbers.{parities_in, parities_below}
use Rattle.mf_places.specs.Generations.{holds}
use Rattle.mf_places.proofs.Counts.{max_parities-le-four, max_parities-zero}
use Rattle.mf_places.proofs.Names.{count_of-is}

-- fewer chunks make no more stripes
stripes_grow : (m n w : ℕ) → 0 < w → m ≤ n → div_ceil m w ≤ div_ceil n w
stripes_grow m n w pos low =
    let a = (div_ceil_times m w pos).1 in
    let b = (div_ceil_times n w pos).0 in
    let c : div_ceil m w * w < (div_ceil n w + 1) * w = omega arith in
    let d = lt_of_mul-lt-mul_right w c in omega arith

-- the stripes of the widths below, of 1,024 chunks
abbrev stripes_below : ℕ → ℕ
stripes_below zero = 0
stripes_below (suc w) = stripes_below w + div_ceil 1024 w

stripes_rise : (w v : ℕ) → w ≤ v → stripes_below w ≤ stripes_below v
stripes_rise w zero low = let e : w ≡ 0 = omega arith in subst (λ n. stripes_below n ≤ 0) (sym e) (omega arith)
stripes_rise w (suc v) low = dite (ℕ_discrete w (suc v))
    (λ e. subst (λ n. stripes_below w ≤ stripes_below n) e (omega arith))
    (λ ne. let r = stripes_rise w v (omega arith) in omega arith)

parities_few : {s : List Stage} → IsChain s → (m w : ℕ) → m ≤ 1024 → parities_in m s w ≤ div_ceil 1024 w * 4
parities_few {s = s} chain m zero low = let z = max_parities-zero chain in
    subst (λ k. div_ceil m 0 * k ≤ div_ceil 1024 0 * 4) (sym z) (omega arith)
parities_few {s = s} chain m (suc w) low =
    mul-le (div_ceil m (suc w)) (max_parities (suc w) s) (div_ceil 1024 (suc w)) 4
    (stripes_grow m 1024 (suc w) (omega arith) low) (max_parities-le-four chain (suc w))

sum_few : (a b c d : ℕ) → a ≤ c * 4 → b ≤ d * 4 → a + b ≤ (c + d) * 4
sum_few a b c d h k = omega arith

all_few : {s : List Stage} → IsChain s → (m w : ℕ) → m ≤ 1024 → parities_below m s w ≤ stripes_below w * 4
all_few chain m zero low = omega arith
all_few {s = s} chain m (suc w) low =
    sum_few (parities_below m s w) (parities_in m s w) (stripes_below w) (div_ceil 1024 w) (all_few chain m w low)
    (parities_few chain m w low)

by_le : (a b : ℕ) → leb a b ≡ true → a ≤ b
by_le a b e = search rules

at_limit : stripes_below 65 ≤ 5500
at_limit = by_le (stripes_below 65) 5500 refl

stripes_few : (w : ℕ) → w ≤ 65 → stripes_below w ≤ 5500
stripes_few w low = let r = stripes_rise w 65 low in let l = at_limit in omega arith

kept_few : {X : Type 0} (t : Bool) (x : X) (ys : List X) (n : ℕ) → length ys ≤ n → length (cond t (x ∷ ys) ys) ≤ suc n
kept_few true x ys n h = omega arith
kept_few false x ys n h = omega arith

filter_few : {X : Type 0} (p : X → Bool) (xs : List X) → length (filter p xs) ≤ length xs
filter_few p [] = omega arith
filter_few p (x ∷ xs) = kept_few (p x) x (filter p xs) (length xs) (filter_few p xs)

count_few : (b : BookFacts) → IsBook b → count_of b ≤ 30000
count_few b book =
    let chain = book.shape.chain in
    let chunks = book.chunks in
    let e = count_of-is b in
    let wide = max_width-le-limit chain in
    let ps = all_few chain (chunks_of b) (max_width b.shape.stages + 1) chunks in
    let few = stripes_few (max_width b.shape.stages + 1) (omega arith) in
    let copies = chain.copies 0 chain.some in
    let cs = mul-le (copies_at b.shape.stages 0) (chunks_of b) 2 1024 copies chunks in
    omega arith

pub passing_few : (b : BookFacts) (p : Name → Bool) → IsBook b → length (filter p (all_names b)) ≤ 30000
unfolding count_of
passing_few b p book = let few = filter_few p (all_names b) in let all = count_few b book in omega arith

pub names_few : (b : BookFacts) (t : ℕ) → IsBook b → length (filter (holds b t) (all_names b)) ≤ 30000
names_few b t book = passing_few b (holds b t) book
