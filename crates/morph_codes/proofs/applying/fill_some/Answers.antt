use Rattle.std.proofs.Common.{◌≡◌, ℕ, [], length, get_or, sym, ap, ◌∙◌, arith}
use Rattle.mf_kernel.specs.Dots.{combined}
use Rattle.morph_codes.specs.Decoded.{row_at}
use Rattle.morph_codes.specs.Handed.{bytes_of}
use Rattle.morph_codes.proofs.Rooms.{room_at, room_set, room_kept, no_room}
use Rattle.morph_codes.proofs.applying.fill_some.Goals as goal

pub fill_room-requires-clause-columns : goal.fill_room-requires-clause-columns
fill_room-requires-clause-columns c = λ k d lt.
    let a = c.args in
    let within = c.requires.columns k d lt in
    let sized = c.requires.sizes a.q (omega arith) in
    omega (arith, within, sized, ap length (room_at a.rooms.now a.q no_room [] (omega arith)))

pub returns-then-rooms-q-lt3-clause-made : goal.returns-then-rooms-q-lt3-clause-made
returns-then-rooms-q-lt3-clause-made c i le lt =
    let a = c.args in
    let pieces = bytes_of a.pieces.now in
    let same : i ≡ a.q = omega arith in
    let sized : length (get_or a.rooms.now a.q no_room).bytes.now ≡ a.size =
    sym (ap length (room_at a.rooms.now a.q no_room [] (omega arith))) ∙ c.requires.sizes a.q (omega arith) in
    room_set a.rooms.now a.q i c.fill_room.new.room (omega arith) same
    ∙ c.fill_room.ensures
    ∙ ap (λ (k : ℕ). combined k pieces c.row-first.result.now) sized
    ∙ ap (combined a.size pieces) c.row-first.ensures.row
    ∙ ap (λ (k : ℕ). combined a.size pieces (row_at (length a.pieces.now) a.rows.now k)) (sym same)

pub returns-then-rooms-q-lt3-clause-below : goal.returns-then-rooms-q-lt3-clause-below
returns-then-rooms-q-lt3-clause-below c i lt = room_kept c.args.rooms.now c.args.q i c.fill_room.new.room
    (λ e. omega arith)

pub returns-then-rooms-q-lt3-clause-above : goal.returns-then-rooms-q-lt3-clause-above
returns-then-rooms-q-lt3-clause-above c i le = room_kept c.args.rooms.now c.args.q i c.fill_room.new.room
    (λ e. omega arith)
