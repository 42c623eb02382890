-- What one read of a source in memory takes.
use Rattle.std.proofs.Common.{◌≡◌, ℕ, ◌+◌, ◌<◌, ◌≤◌, List, [], ◌++◌, length, take, drop, min, sym, ap, subst, ◌∙◌}
use Rattle.std.proofs.Common.{arith, length-drop, Result, Ok, Err, IsErrAnd, IfErr}
use Rattle.std.proofs.lemmas.List.{take-append-drop, drop-drop, take-append-le, length-take-le}
use Rattle.std.proofs.Math.Seq.{take-length}
use Rattle.std.proofs.Math.ListN.{drop_of_length-le}

-- the front of the buffer and what is left afterwards are what was left before
pub taken_front : (bytes rest front : List ℕ) (taken n : ℕ) → n ≤ length (drop taken bytes)
    → front ≡ take n (drop taken bytes)
    → drop taken bytes ≡ take n (front ++ rest) ++ drop (taken + n) bytes
taken_front bytes rest front taken n fits e =
    let l : length front ≡ n = ap length e ∙ length-take-le n (drop taken bytes) fits in
    let whole : take n (front ++ rest) ≡ front = take-append-le n front rest (omega arith)
    ∙ ap (λ k. take k front) (sym l) ∙ take-length front in
    sym (ap (λ xs. xs ++ drop (taken + n) bytes) (whole ∙ e)
    ∙ ap (λ xs. take n (drop taken bytes) ++ xs) (sym (drop-drop n taken bytes))
    ∙ take-append-drop n (drop taken bytes))

-- a read that takes nothing, with room for more, finds nothing left
pub none_left : (bytes : List ℕ) (taken n room piece : ℕ) → n ≡ min (min (length (drop taken bytes)) room) piece
    → 0 < piece → n ≡ 0 → 0 < room
    → drop (taken + n) bytes ≡ []
none_left bytes taken n room piece e p z r =
    drop_of_length-le bytes (omega (arith, length-drop taken bytes))

-- what holds of the one error that a `?` can make holds of its result
pub IfErr-from_one : {X E : Type 0} (r : Result X E) (one : E) (P : E → Type 0) → IsErrAnd r (λ e. e ≡ one) → P one
    → IfErr r P
IfErr-from_one (Ok x) one P h p = tt
IfErr-from_one (Err e) one P h p = subst P (sym h) p
