-- What a crash leaves of a write, byte by byte.
use Rattle.std.proofs.Common.{◌≡◌, ℕ, ◌+◌, ◌<◌, ◌≤◌, List, [], ◌∷◌, ◌++◌, length, get_or, set, take}
use Rattle.std.proofs.Common.{drop, sym, ap, ◌∙◌, arith, length-append, append_assoc}
use Rattle.std.proofs.lemmas.List.{drop_more, take_more, set_at, length-take}
use Rattle.mf_journal.specs.Images.{length-shredded}
use Rattle.mf_journal.specs.Memory.{shredded, shredded_byte}

shredded_push : (k i : ℕ) (xs : List ℕ) (x : ℕ) → i ≡ k + length xs
    → shredded k (xs ++ x ∷ []) ≡ shredded k xs ++ shredded_byte i x ∷ []
shredded_push k i [] x is = let same : k ≡ i = omega arith in ap (λ n. shredded_byte n x ∷ []) same
shredded_push k i (y ∷ xs) x is =
    ap (λ rest. shredded_byte k y ∷ rest) (shredded_push (k + 1) i xs x (omega arith))

pub shred_more : (at i v : ℕ) (bytes old : List ℕ) → i < length bytes
    → at + length bytes ≤ length old
    → v ≡ shredded_byte i (get_or bytes i 0)
    → set (take at old ++ shredded 0 (take i bytes) ++ drop (at + i) old) (at + i) v
    ≡ take at old ++ shredded 0 (take (i + 1) bytes) ++ drop (at + (i + 1)) old
shred_more at i v bytes old within fits is =
    let front = take at old ++ shredded 0 (take i bytes) in
    let size : length front ≡ at + i = omega (
      arith,
      length-append (take at old) (shredded 0 (take i bytes)),
      length-take at old,
      length-shredded 0 (take i bytes),
      length-take i bytes,
    ) in
    let end = drop (at + i + 1) old in
    let more : shredded 0 (take (i + 1) bytes) ≡ shredded 0 (take i bytes) ++ v ∷ [] =
    ap (shredded 0) (take_more bytes i 0 within)
    ∙ shredded_push 0 i (take i bytes) (get_or bytes i 0) (omega (arith, length-take i bytes))
    ∙ ap (λ x. shredded 0 (take i bytes) ++ x ∷ []) (sym is) in
    let place : at + i + 1 ≡ at + (i + 1) = omega arith in
    ap (λ rest. set (front ++ rest) (at + i) v) (drop_more old (at + i) 0 (omega arith))
    ∙ set_at front (get_or old (at + i) 0) end v (at + i) size
    ∙ sym (append_assoc front (v ∷ []) end)
    ∙ ap (λ l. l ++ end) (append_assoc (take at old) (shredded 0 (take i bytes)) (v ∷ []))
    ∙ ap (λ l. take at old ++ l ++ end) (sym more)
    ∙ ap (λ n. take at old ++ shredded 0 (take (i + 1) bytes) ++ drop n old) place
