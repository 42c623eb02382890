use Rattle.std.proofs.Common.{◌≡◌, ℕ, ◌+◌, ◌≤◌, length, get_or, [], ap, sym, subst, inl, inr, arith}
use Rattle.std.proofs.lemmas.Bool.{cases_lt}
use Rattle.morph_codes.specs.Handed.{bytes_of}
use Rattle.morph_codes.proofs.Pieces.{piece_at, length-bytes_of, long_at, no_piece}
use Rattle.morph_codes.proofs.handed.have.Goals as goal

pub returns-then-not-has-clause-no : goal.returns-then-not-has-clause-no
returns-then-not-has-clause-no c all =
    let a = c.args in
    let long = long_at a.pieces.now c.loop-piece.piece-index (a.start + a.count) no_piece (omega arith) all in
    let short = c.if-not-has.ensures.no in
    absurd (omega (arith, long, short))

pub loop-piece-preserved : goal.loop-piece-preserved
loop-piece-preserved c i lt = elim (cases_lt i c.loop-piece.piece-index) [
  | inl below ↦ c.loop-piece.invariant i below
  | inr least ↦
      let a = c.args in
      let same : i ≡ c.loop-piece.piece-index = omega arith in
      let long = c.if-not-has.ensures.yes in
      let here = piece_at a.pieces.now c.loop-piece.piece-index no_piece [] (omega arith) in
      let one = ap length here in
      subst (λ (n : ℕ). a.start + a.count ≤ length (get_or (bytes_of a.pieces.now) n [])) (sym same)
      (omega (arith, long, one))
]

pub returns-clause-yes : goal.returns-clause-yes
returns-clause-yes c k d lt =
    let a = c.args in
    let here = length-bytes_of a.pieces.now in
    let long = c.loop-piece.invariant k (omega (arith, here)) in
    let one = ap length (piece_at a.pieces.now k no_piece [] (omega (arith, here))) in
    let other = ap length (piece_at a.pieces.now k no_piece d (omega (arith, here))) in
    omega (arith, long, one, other)
