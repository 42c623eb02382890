-- Askings that began, gone on with until they are whole.
use Rattle.std.proofs.Common.{◌≡◌, ℕ, zero, suc, ◌+◌, ◌-◌, ◌<◌, ◌≤◌, ◌⊎◌, Bool, true, false, cond, List, [], ◌∷◌, ◌++◌}
use Rattle.std.proofs.Common.{length, take, get_or, Option, Some, None, refl, sym, ap, ◌∙◌, subst, inl, inr, arith}
use Rattle.std.proofs.Common.{append_assoc}
use Rattle.std.specs.Prelude.{MatchOption}
use Rattle.std.proofs.lemmas.Bool.{cases_lt}
use Rattle.std.proofs.lemmas.List.{append-nil, length_push, take_more, take_all, nil_from_length}
use Rattle.mf_decode.specs.declared.pieces.Asked.{Asked}
use Rattle.mf_decode.specs.declared.pieces.Place.{Place}
use Rattle.mf_decode.specs.declared.pieces.Place.TheVariants as place
use Rattle.mf_decode.specs.Answers.{had, missing, pieces_from, parities_from, IsAsking, IsBegun, IsNext}
use Rattle.mf_decode.specs.Fronts.{ParitiesInOrder, PiecesCut, ParitiesCut}
use Rattle.mf_decode.proofs.Orders.{pieces_from-push, had-push, in_order-push}

-- no parity was asked for yet
pub in_order-none : (points wanted : ℕ) (before : List Asked) → ParitiesInOrder points wanted before before []
in_order-none points wanted before = record {
  answers = sym (append-nil before);
  exist = omega arith;
  needed = λ p lt. absurd (omega arith);
}

-- no more than wanted were had
had_bound : (points wanted : ℕ) (before now : List Asked) (hs : List Bool) (n : ℕ) → length hs ≡ n
    → ParitiesInOrder points wanted before now hs → had hs ≤ wanted
had_bound points wanted before now hs zero e o = subst (λ (l : List Bool). had l ≤ wanted) (sym (nil_from_length hs e))
    (omega arith)
had_bound points wanted before now hs (suc m) e o =
    let lt : m < length hs = omega arith in
    let less = o.needed m lt in
    let last = get_or hs m true in
    let whole : hs ≡ take m hs ++ last ∷ [] = sym (take_all (m + 1) hs (omega arith)) ∙ take_more hs m true lt in
    let count : had hs ≡ had (take m hs) + cond last 1 0 = ap had whole ∙ had-push (take m hs) last in
    let one = at_most_one last in
    omega arith
  where
    at_most_one : (b : Bool) → cond b 1 0 ≤ 1
    at_most_one true = omega arith
    at_most_one false = omega arith

-- the asking is whole
whole : (count points : ℕ) (pieces parities : List Bool) (asked : List Asked) → length pieces ≡ count
    → ParitiesInOrder points (missing pieces) (pieces_from 0 pieces) asked parities
    → (had parities ≡ missing pieces) ⊎ (length parities ≡ points) → IsAsking count points pieces parities asked
whole count points pieces parities asked each o ended = record
    { order = o.answers; each = each; exist = o.exist; needed = o.needed; ended = ended }

-- parities are asked for until the asking is whole
go_on : (count points : ℕ) (pieces : List Bool) (n : ℕ) (asked : List Asked) (parities : List Bool)
    → length pieces ≡ count → ParitiesInOrder points (missing pieces) (pieces_from 0 pieces) asked parities
    → had parities ≤ missing pieces → points ≤ length parities + n → IsBegun count points asked
go_on count points pieces zero asked parities each o bound enough =
    let most = o.exist in (
      pieces,
      parities,
      [],
      subst (IsAsking count points pieces parities) (sym (append-nil asked))
          (whole count points pieces parities asked each o (inr (omega arith))),
    )
go_on count points pieces (suc n) asked parities each o bound enough = elim (cases_lt (had parities) (missing pieces)) [
  | inr le ↦ (
    pieces,
    parities,
    [],
    subst (IsAsking count points pieces parities) (sym (append-nil asked))
        (whole count points pieces parities asked each o (inl (omega arith))),
  )
  | inl more ↦ elim (cases_lt (length parities) points) [
    | inr le ↦ (let most = o.exist
        in (
          pieces,
          parities,
          [],
          subst (IsAsking count points pieces parities) (sym (append-nil asked))
              (whole count points pieces parities asked each o (inr (omega arith))),
        ))
    | inl lt ↦
        let next : Asked = record { place = place.Parity (length parities); had = true } in
        let long = length_push parities true in
        let count_had = had-push parities true in
        let (ps, hs, rest, is) = go_on count points pieces n (asked ++ next ∷ []) (parities ++ true ∷ []) each
        (in_order-push points (missing pieces) (pieces_from 0 pieces) asked (asked ++ next ∷ []) parities
        (length parities) true refl lt more refl o)
        (let e : had (parities ++ true ∷ []) ≡ had parities + 1 = count_had in omega arith) (omega arith) in
        (ps, hs, next ∷ rest, subst (IsAsking count points ps hs) (append_assoc asked (next ∷ []) rest) is)
  ]
]

-- an asking whose pieces were asked for has begun
pub begun_parities : (count points : ℕ) (pieces parities : List Bool) (asked : List Asked) → length pieces ≡ count
    → ParitiesInOrder points (missing pieces) (pieces_from 0 pieces) asked parities → IsBegun count points asked
begun_parities count points pieces parities asked each o = go_on count points pieces points asked parities each o
    (had_bound points (missing pieces) (pieces_from 0 pieces) asked parities (length parities) refl o) (omega arith)

-- and goes on with the next parity
pub next_parity : (count points : ℕ) (pieces parities : List Bool) (asked : List Asked) → length pieces ≡ count
    → ParitiesInOrder points (missing pieces) (pieces_from 0 pieces) asked parities
    → length parities < points → had parities < missing pieces
    → IsNext count points asked (place.Parity (length parities))
next_parity count points pieces parities asked each o lt more =
    let next : Asked = record { place = place.Parity (length parities); had = true } in (
      true,
      begun_parities count points pieces (parities ++ true ∷ []) (asked ++ next ∷ []) each
          (in_order-push points (missing pieces) (pieces_from 0 pieces) asked (asked ++ next ∷ []) parities
          (length parities) true refl lt more refl o),
    )

-- an asking whose pieces are asked for has begun
pub begun_pieces : (count points n : ℕ) (hs : List Bool) → length hs + n ≡ count
    → IsBegun count points (pieces_from 0 hs)
begun_pieces count points zero hs e = begun_parities count points hs [] (pieces_from 0 hs) (omega arith)
    (in_order-none points (missing hs) (pieces_from 0 hs))
begun_pieces count points (suc n) hs e =
    let next : Asked = record { place = place.Piece (length hs); had = true } in
    let long = length_push hs true in
    let (ps, qs, rest, is) = begun_pieces count points n (hs ++ true ∷ []) (omega arith) in (
      ps,
      qs,
      next
          ∷ rest,
      subst (IsAsking count points ps qs)
          (ap (λ (l : List Asked). l ++ rest) (pieces_from-push 0 (length hs) hs true (omega arith))
          ∙ append_assoc (pieces_from 0 hs) (next ∷ []) rest) is,
    )

-- and goes on with the next piece
pub next_piece : (count points n : ℕ) (hs : List Bool) → length hs + suc n ≡ count
    → IsNext count points (pieces_from 0 hs) (place.Piece (length hs))
next_piece count points n hs e =
    let long = length_push hs true in (
      true,
      subst (IsBegun count points) (pieces_from-push 0 (length hs) hs true (omega arith))
          (begun_pieces count points n (hs ++ true ∷ []) (omega arith)),
    )

-- ---- what an error leaves

-- what was asked for, and where it was cut
abbrev pub Cut : ℕ → ℕ → List Asked → List Asked → Option Place → Type 0
Cut count points before after failure = (asked : List Asked) × (after ≡ before ++ asked)
    × MatchOption failure (IsBegun count points asked) (IsNext count points asked)

at_none : (count points : ℕ) (asked : List Asked) (failure : Option Place) → failure ≡ None → IsBegun count points asked
    → MatchOption failure (IsBegun count points asked) (IsNext count points asked)
at_none count points asked failure e b = subst
    (λ (o : Option Place). MatchOption o (IsBegun count points asked) (IsNext count points asked)) (sym e) b

at_some : (count points : ℕ) (asked : List Asked) (failure : Option Place) (p : Place) → failure ≡ Some p
    → IsNext count points asked p → MatchOption failure (IsBegun count points asked) (IsNext count points asked)
at_some count points asked failure p e n = subst
    (λ (o : Option Place). MatchOption o (IsBegun count points asked) (IsNext count points asked)) (sym e) n

pub cut_at_pieces : (count points : ℕ) (before after : List Asked) (failure : Option Place)
    → PiecesCut count before after failure → Cut count points before after failure
cut_at_pieces count points before after failure (hs, is, ended) = (
  pieces_from 0 hs,
  is,
  elim ended [
    | inl (none, le) ↦ at_none count points (pieces_from 0 hs) failure none
        (begun_pieces count points (count - length hs) hs (omega arith))
    | inr (some, lt) ↦ at_some count points (pieces_from 0 hs) failure (place.Piece (length hs)) some
        (next_piece count points (count - suc (length hs)) hs (omega arith))
  ],
)

-- the parities in order, seen from before the pieces
pub in_order_from : (points wanted : ℕ) (before middle after : List Asked) (front : List Asked) (hs : List Bool)
    → middle ≡ before ++ front → ParitiesInOrder points wanted middle after hs
    → (after ≡ before ++ (front ++ parities_from 0 hs))
    × ParitiesInOrder points wanted front (front ++ parities_from 0 hs) hs
in_order_from points wanted before middle after front hs e o = (
  o.answers ∙ ap (λ (l : List Asked). l ++ parities_from 0 hs) e ∙ append_assoc before front (parities_from 0 hs),
  record { answers = refl; exist = o.exist; needed = o.needed },
)

pub cut_at_parities : (count points : ℕ) (before middle after : List Asked) (failure : Option Place)
    (pieces : List Bool) → length pieces ≡ count → middle ≡ before ++ pieces_from 0 pieces
    → ParitiesCut points (missing pieces) middle after failure → Cut count points before after failure
cut_at_parities count points before middle after failure pieces each e (hs, order, ended) =
    let (is, o) = in_order_from points (missing pieces) before middle after (pieces_from 0 pieces) hs e order in
    let asked = pieces_from 0 pieces ++ parities_from 0 hs in (
      asked,
      is,
      elim ended [
        | inl none ↦ at_none count points asked failure none (begun_parities count points pieces hs asked each o)
        | inr (some, lt, more) ↦ at_some count points asked failure (place.Parity (length hs)) some
            (next_parity count points pieces hs asked each o lt more)
      ],
    )

-- want of memory between the calls
pub cut_after_pieces : (count points : ℕ) (before after : List Asked) (failure : Option Place) (pieces : List Bool)
    → length pieces ≡ count → after ≡ before ++ pieces_from 0 pieces → failure ≡ None
    → Cut count points before after failure
cut_after_pieces count points before after failure pieces each e none = (
  pieces_from 0 pieces,
  e,
  at_none count points (pieces_from 0 pieces) failure none
      (begun_pieces count points 0 pieces (omega arith)),
)

pub cut_after_parities : (count points : ℕ) (before middle after : List Asked) (failure : Option Place)
    (pieces hs : List Bool) → length pieces ≡ count → middle ≡ before ++ pieces_from 0 pieces
    → ParitiesInOrder points (missing pieces) middle after hs → failure ≡ None → Cut count points before after failure
cut_after_parities count points before middle after failure pieces hs each e order none =
    cut_at_parities count points before middle after failure pieces each e (hs, order, inl none)

-- a whole asking
pub asked_whole : (count points : ℕ) (before middle after : List Asked) (pieces hs : List Bool) → length pieces ≡ count
    → middle ≡ before ++ pieces_from 0 pieces
    → ParitiesInOrder points (missing pieces) middle after hs → (had hs ≡ missing pieces) ⊎ (length hs ≡ points)
    → (asked : List Asked) × (after ≡ before ++ asked) × IsAsking count points pieces hs asked
asked_whole count points before middle after pieces hs each e order ended =
    let (is, o) = in_order_from points (missing pieces) before middle after (pieces_from 0 pieces) hs e order in (
      pieces_from 0 pieces
          ++ parities_from 0 hs,
      is,
      whole count points pieces hs (pieces_from 0 pieces ++ parities_from 0 hs) each o
          ended,
    )
