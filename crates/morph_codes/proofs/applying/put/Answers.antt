use Rattle.std.proofs.Common.{ℕ, [], length, get_or, inl, inr, slice_set, refl, sym, ap, ◌∙◌, arith}
use Rattle.std.proofs.lemmas.Bool.{cases_eq}
use Rattle.morph_codes.specs.Handed.{rooms_of, written}
use Rattle.morph_codes.proofs.Rooms.{room_at, room_set, room_kept, no_room}
use Rattle.morph_codes.proofs.Spans.{length-written}
use Rattle.morph_codes.proofs.applying.put.Goals as goal

pub put_block-requires : goal.put_block-requires
put_block-requires c =
    let a = c.args in
    omega (arith, c.requires.fits, ap length (room_at a.rooms.now a.q no_room [] (omega arith)))

pub returns-clause-here : goal.returns-clause-here
returns-clause-here c =
    let a = c.args in
    room_set a.rooms.now a.q a.q c.put_block.new.room (omega arith) refl
    ∙ c.put_block.ensures
    ∙ ap (written a.start a.block.now) (sym (room_at a.rooms.now a.q no_room [] (omega arith)))

pub returns-clause-others : goal.returns-clause-others
returns-clause-others c i other = room_kept c.args.rooms.now c.args.q i c.put_block.new.room other

pub returns-clause-sizes : goal.returns-clause-sizes
returns-clause-sizes c i =
    let a = c.args in
    let room = c.put_block.new.room in
    let here = room_set a.rooms.now a.q a.q room (omega arith) refl
    ∙ c.put_block.ensures
    ∙ ap (written a.start a.block.now) (sym (room_at a.rooms.now a.q no_room [] (omega arith))) in
    elim (cases_eq i a.q) [
      | inl e ↦
          ap (λ (k : ℕ). length (get_or (rooms_of (slice_set a.rooms.now a.q room)) k [])) e
          ∙ ap length here
          ∙ length-written a.start a.block.now (get_or (rooms_of a.rooms.now) a.q []) c.requires.fits
          ∙ ap (λ (k : ℕ). length (get_or (rooms_of a.rooms.now) k [])) (sym e)
      | inr other ↦ ap length (room_kept a.rooms.now a.q i room other)
    ]
