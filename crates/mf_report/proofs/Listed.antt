-- Lists of lines, each of one more number.
use Rattle.std.proofs.Common.{◌≡◌, ℕ, ◌+◌, List, [], ◌∷◌, ◌++◌, map, Option, None, Result, Ok, Err, sym, ap, ◌∙◌, arith}
use Rattle.std.specs.Prelude.{IfOk}
use Rattle.std.specs.List.{range_with_len}
use Rattle.std.proofs.lemmas.List.{append_assoc, append-nil, map-append}
use Rattle.std.proofs.lemmas.List.FromFn.{map-range_with_len_more}
use Rattle.mf_plain.specs.Resting.{Resting}
use Rattle.mf_report.specs.Dumps.{lines_if}

-- the line of the next number
pub line_next : {X : Type 0} (text : X → List ℕ) (line : ℕ → List ℕ) (n : ℕ) (old list new : List X) (x : X)
    → map text list ≡ map text old ++ map line (range_with_len 0 n) → new ≡ list ++ x ∷ [] → text x ≡ line n
    → map text new ≡ map text old ++ map line (range_with_len 0 (n + 1))
line_next text line n old list new x so more is =
    ap (map text) more ∙ map-append text list (x ∷ []) ∙ (λ i. so i ++ is i ∷ [])
    ∙ append_assoc (map text old) (map line (range_with_len 0 n)) (line n ∷ [])
    ∙ ap (λ r. map text old ++ r) (sym (map-range_with_len_more line 0 n n (omega arith)))

-- one line, and then those of two lists
pub lines_next : {X : Type 0} (text : X → List ℕ) (old first second list : List X) (x : X)
    (head : List ℕ) (lines others : List (List ℕ))
    → first ≡ old ++ x ∷ [] → text x ≡ head → map text second ≡ map text first ++ lines
    → map text list ≡ map text second ++ others → map text list ≡ map text old ++ (head ∷ (lines ++ others))
lines_next text old first second list x head lines others one is more last =
    let begun : map text first ≡ map text old ++ head ∷ [] =
    ap (map text) one ∙ map-append text old (x ∷ []) ∙ ap (λ l. map text old ++ l ∷ []) is in
    last ∙ ap (λ ls. ls ++ others) (more ∙ ap (λ ls. ls ++ lines) begun)
    ∙ append_assoc (map text old ++ head ∷ []) lines others
    ∙ append_assoc (map text old) (head ∷ []) (lines ++ others)

-- there is no such file
pub no_lines : (told : List (List ℕ)) (name : List ℕ) (file : Option Resting) → None ≡ file
    → told ≡ told ++ lines_if name file
no_lines told name file none = sym (append-nil told) ∙ ap (λ f. told ++ lines_if name f) none

-- what holds of a call's value, and what follows from it
pub if_ok-map : {T E : Type 0} (r : Result T E) (P Q : T → Type 0) → ((x : T) → P x → Q x) → IfOk r P → IfOk r Q
if_ok-map (Ok x) P Q f h = f x h
if_ok-map (Err e) P Q f h = h
