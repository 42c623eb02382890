-- What a write behind the gate, and a write of the gate, make of a journal's bytes.
use Rattle.std.proofs.Common.{◌≡◌, inl, inr, ℕ, ◌+◌, min, List, [], ◌∷◌, ◌++◌, length, get_or, take}
use Rattle.std.proofs.Common.{drop, sym, ap, subst, ◌∙◌, arith, append_assoc, length-append}
use Rattle.std.proofs.Common.{take-append-drop}
use Rattle.std.proofs.lemmas.List.{take_at, drop_at, drop_more}
use Rattle.std.proofs.lemmas.List.Elements.{All-push}
use Rattle.std.proofs.lemmas.Bool.{cases_eq}
use Rattle.std.specs.List.{All}
use Rattle.mf_journal.specs.Crash.{Overlays, TornAt}
use Rattle.mf_journal.specs.Frames.{front, frames, framed, mark, IsShort, IsJournal}
use Rattle.mf_journal.specs.Frames.{IsBeforeOrAfter}

frames_push : (ps : List (List ℕ)) (p rest : List ℕ)
    → frames (ps ++ p ∷ []) ++ rest ≡ frames ps ++ 165 ∷ (framed p ++ rest)
frames_push [] p rest = append_assoc (165 ∷ framed p) [] rest
frames_push (q ∷ ps) p rest =
    append_assoc (165 ∷ framed q) (frames (ps ++ p ∷ [])) rest
    ∙ ap (λ l. (165 ∷ framed q) ++ l) (frames_push ps p rest)
    ∙ sym (append_assoc (165 ∷ framed q) (frames ps) (165 ∷ (framed p ++ rest)))

pub front_push : (ps : List (List ℕ)) (p rest : List ℕ)
    → front (ps ++ p ∷ []) ++ rest ≡ front ps ++ 165 ∷ (framed p ++ rest)
front_push ps p rest =
    append_assoc mark (frames (ps ++ p ∷ [])) rest
    ∙ ap (λ l. mark ++ l) (frames_push ps p rest)
    ∙ sym (append_assoc mark (frames ps) (165 ∷ (framed p ++ rest)))

module _ (xs : List ℕ) (gate : ℕ) (rest bytes c : List ℕ) (place : ℕ) (at : place ≡ length xs)
    (is : bytes ≡ xs ++ gate ∷ rest) where
  size : length bytes ≡ place + 1 + length rest
  size = omega (arith, ap length is, length-append xs (gate ∷ rest))

  front_is : take place bytes ≡ xs
  front_is = ap (take place) is ∙ take_at xs (gate ∷ rest) place (sym at)

  whole : bytes ≡ (xs ++ gate ∷ []) ++ rest
  whole = is ∙ sym (append_assoc xs (gate ∷ []) rest)

  closed : place + 1 ≡ length (xs ++ gate ∷ [])
  closed = omega (arith, length-append xs (gate ∷ []))

  with_gate : take (place + 1) bytes ≡ xs ++ gate ∷ []
  with_gate = ap (take (place + 1)) whole ∙ take_at (xs ++ gate ∷ []) rest (place + 1) (sym closed)

  pub behind_gate : drop (place + 1) bytes ≡ rest
  behind_gate =
      ap (drop (place + 1)) whole ∙ drop_at (xs ++ gate ∷ []) rest (place + 1) (sym closed)

  -- the gate stands in each image of a write behind it
  pub torn_behind : (n : ℕ) → TornAt (place + 1) n bytes c → c ≡ xs ++ gate ∷ drop (place + 1) c
  torn_behind n torn =
      let within : min (place + 1) (length bytes) ≡ place + 1 = omega (arith, size) in
      let kept : take (place + 1) c ≡ take (place + 1) bytes =
      subst (λ k. take k c ≡ take k bytes) within torn.before in
      sym (take-append-drop (place + 1) c)
      ∙ ap (λ l. l ++ drop (place + 1) c) (kept ∙ with_gate)
      ∙ append_assoc xs (gate ∷ []) (drop (place + 1) c)

  -- all but the gate stands in each image of a write of it
  pub torn_gate : TornAt place 1 bytes c → c ≡ xs ++ get_or c place 0 ∷ rest
  torn_gate torn =
      let within : min place (length bytes) ≡ place = omega (arith, size) in
      let kept : take place c ≡ take place bytes =
      subst (λ k. take k c ≡ take k bytes) within torn.before in
      sym (take-append-drop place c)
      ∙ ap (λ l. l ++ drop place c) (kept ∙ front_is)
      ∙ ap (λ l. xs ++ l) (drop_more c place 0 (omega (arith, size, torn.no_shorter))
      ∙ ap (λ l. get_or c place 0 ∷ l) (torn.behind ∙ behind_gate))

  -- a write behind the gate
  pub held_behind : (new : List ℕ) → Overlays (place + 1) new bytes c
      → c ≡ xs ++ gate ∷ (new ++ drop (place + 1 + length new) bytes)
  held_behind new holds =
      let end = drop (place + 1 + length new) bytes in
      holds
      ∙ ap (λ l. l ++ new ++ end) with_gate
      ∙ append_assoc (xs ++ gate ∷ []) new end
      ∙ append_assoc xs (gate ∷ []) (new ++ end)

  -- a write of the gate
  pub held_gate : (new : ℕ) → Overlays place (new ∷ []) bytes c → c ≡ xs ++ new ∷ rest
  held_gate new holds =
      holds
      ∙ ap (λ l. l ++ (new ∷ []) ++ drop (place + 1) bytes) front_is
      ∙ ap (λ l. xs ++ (new ∷ []) ++ l) behind_gate
      ∙ append_assoc xs (new ∷ []) rest

-- a frame behind an open gate is a record
pub one_more : (ps : List (List ℕ)) (p junk c : List ℕ) → All IsShort ps → IsShort p
    → c ≡ front ps ++ 165 ∷ (framed p ++ 0 ∷ junk) → IsJournal c (ps ++ p ∷ [])
one_more ps p junk c all short is = record {
  gate = 0;
  rest = junk;
  is = is ∙ sym (front_push ps p (0 ∷ junk));
  shut = omega arith;
  short = All-push IsShort ps p all short;
}

-- a frame behind any gate counts or it doesn't
pub either : (ps : List (List ℕ)) (p junk c : List ℕ) (gate : ℕ) → All IsShort ps → IsShort p
    → c ≡ front ps ++ gate ∷ (framed p ++ 0 ∷ junk) → IsBeforeOrAfter ps p c
either ps p junk c gate all short is = elim (cases_eq gate 165) [
  | inl opens ↦
      inr (one_more ps p junk c all short
      (is ∙ ap (λ g. front ps ++ g ∷ (framed p ++ 0 ∷ junk)) opens))
  | inr shut ↦ inl (record {
    gate = gate;
    rest = framed p ++ 0 ∷ junk;
    is = is;
    shut = shut;
    short = all;
  })
]
