-- Lists of rows, some at a time.
use Rattle.std.proofs.Common.{◌≡◌, ℕ, ◌+◌, ◌-◌, ◌<◌, ◌≤◌, List, ◌++◌, length, get_or, map, take, drop, All, sym, ap}
use Rattle.std.proofs.Common.{ap₂, subst, ◌∙◌, arith}
use Rattle.std.proofs.Math.Seq.{take-add}
use Rattle.std.proofs.lemmas.List.{length-drop, get_or-drop, take_all, drop-map, map-append}
use Rattle.std.specs.declared.vec.Vec.{Vec}
use Rattle.std.specs.declared.alloc.Global.{Global}
use Rattle.mf_kernel.specs.Dots.{rows as bytes_of}

-- the rows from one on
abbrev pub rest : ℕ → List (Vec ℕ Global) → List (Vec ℕ Global)
rest done made = take (length made - done) (drop done made)

pub rest_is : (done : ℕ) (made : List (Vec ℕ Global)) → done ≤ length made → rest done made ≡ drop done made
rest_is done made le = take_all (length made - done) (drop done made) (omega (arith, length-drop done made))

-- what each row has, those from one on have
pub rest_all : (P : List ℕ → Type 0) (done : ℕ) (made : List (Vec ℕ Global)) → done ≤ length made
    → All P (bytes_of made) → All P (bytes_of (rest done made))
rest_all P done made le each = λ k d lt.
    let is : bytes_of (rest done made) ≡ drop done (bytes_of made) =
    ap bytes_of (rest_is done made le) ∙ sym (drop-map (λ (v : Vec ℕ Global). v.items) done made) in
    let there : done + k < length (bytes_of made) =
    omega (arith, ap length is, length-drop done (bytes_of made)) in
    subst P
    (sym (ap (λ (l : List (List ℕ)). get_or l k d) is ∙ get_or-drop done (bytes_of made) k d))
    (each (done + k) d there)

pub sums_step : (by : List ℕ → List ℕ) (done n : ℕ) (made : List (Vec ℕ Global)) (before after : List (List ℕ))
    → done ≤ length made
    → before ≡ map by (take done (bytes_of made)) → after ≡ before ++ map by (take n (bytes_of (rest done made)))
    → after ≡ map by (take (done + n) (bytes_of made))
sums_step by done n made before after le so_far more =
    more
    ∙ ap₂ (λ (a b : List (List ℕ)). a ++ map by (take n b)) so_far
    (ap bytes_of (rest_is done made le) ∙ sym (drop-map (λ (v : Vec ℕ Global). v.items) done made))
    ∙ sym (map-append by (take done (bytes_of made)) (take n (drop done (bytes_of made))))
    ∙ ap (map by) (sym (take-add done n (bytes_of made)))

pub length-rest : (done : ℕ) (made : List (Vec ℕ Global)) → done ≤ length made
    → length (rest done made) ≡ length made - done
length-rest done made le = ap length (rest_is done made le) ∙ length-drop done made
