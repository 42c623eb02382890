use Rattle.std.proofs.Common.{◌≡◌, ℕ, [], length, get_or, inl, inr, ap, sym, subst, ◌∙◌, arith}
use Rattle.std.proofs.lemmas.Bool.{cases_lt}
use Rattle.morph_codes.specs.Handed.{rooms_of}
use Rattle.morph_codes.specs.declared.handed.Room.{Room}
use Rattle.morph_codes.proofs.Rooms.{room_at}
use Rattle.morph_codes.proofs.handed.fit.Goals as goal

pub loop-room-preserved : goal.loop-room-preserved
loop-room-preserved c i lt = elim (cases_lt i c.loop-room.room-index) [
  | inl below ↦ c.loop-room.invariant i below
  | inr least ↦
      let a = c.args in
      let same : i ≡ c.loop-room.room-index = omega arith in
      let here = room_at a.rooms.now c.loop-room.room-index c.room-item.result [] (omega arith) in
      subst (λ (n : ℕ). length (get_or (rooms_of a.rooms.now) n []) ≡ a.size) (sym same)
      (ap length here ∙ ap (λ (r : Room). length r.bytes.now) (sym c.room-item.is) ∙ c.if-room-size.false)
]

pub returns-then-room-size-clause-no : goal.returns-then-room-size-clause-no
returns-then-room-size-clause-no c all =
    let a = c.args in
    let i = c.loop-room.room-index in
    absurd (c.if-room-size.true
    (ap (λ (r : Room). length r.bytes.now) c.room-item.is
    ∙ sym (ap length (room_at a.rooms.now i c.room-item.result [] (omega arith))) ∙ all i (omega arith)))
