use Rattle.std.proofs.Common.{◌≡◌, ℕ, ◌+◌, ◌<◌, List, [], length, map, get_or, sym, ap, ◌∙◌, arith}
use Rattle.std.proofs.lemmas.List.{length-set, length-map, get_or-map, ext_get_or}
use Rattle.mf_code.specs.Rows.{column, weighted_lists}
use Rattle.mf_code.specs.Sums.{weighted}
use Rattle.mf_code.proofs.Lists.{length-list_of}
use Rattle.morph_codes.specs.Handed.{bytes_of, rooms_of}
use Rattle.morph_codes.proofs.Rooms.{length-rooms_of, room_at, room_more, no_room}
use Rattle.morph_codes.proofs.encoding.fill_each.Goals as goal

pub fill_room-requires-clause-columns : goal.fill_room-requires-clause-columns
fill_room-requires-clause-columns c = λ k d lt.
    let rooms = c.loop-q.rooms in
    let q = c.loop-q.q in
    let same = c.loop-q.invariant.0 in
    let within = c.requires.columns k d lt in
    let sized = c.loop-q.invariant.1 q (omega arith) in
    omega (arith, within, sized, ap length (room_at rooms q no_room [] (omega arith)))

pub loop-q-preserved : goal.loop-q-preserved
loop-q-preserved c =
    let a = c.args in
    let rooms = c.loop-q.rooms in
    let q = c.loop-q.q in
    let room = c.fill_room.new.room in
    let pieces = bytes_of a.pieces.now in
    let same = c.loop-q.invariant.0 in
    let sized : length (get_or rooms q no_room).bytes.now ≡ a.size =
    sym (ap length (room_at rooms q no_room [] (omega arith))) ∙ c.loop-q.invariant.1 q (omega arith) in
    let made : room.bytes.now ≡ weighted_lists a.size (get_or a.points.now q 0) pieces =
    c.fill_room.ensures ∙ ap (λ (k : ℕ). weighted_lists k (get_or a.points.now q 0) pieces) sized in (
      length-set rooms q room ∙ same,
      (λ i lt. room_more (λ (j : ℕ) (bytes : List ℕ). length bytes ≡ a.size) rooms q i room (omega arith)
          (ap length made ∙ length-list_of a.size (λ x. weighted (get_or a.points.now q 0) (column x pieces)))
          (λ other. c.loop-q.invariant.1 i (omega (arith, lt, length-set rooms q room)))),
      (λ i lt. room_more
          (λ (j : ℕ) (bytes : List ℕ). j < q + 1 → bytes ≡ weighted_lists a.size (get_or a.points.now j 0) pieces) rooms
          q
          i
          room
          (omega arith) (λ below. made)
          (λ other below. c.loop-q.invariant.2 i (omega (arith, other))) lt),
    )

pub returns : goal.returns
returns c =
    let a = c.args in
    let rooms = c.loop-q.rooms in
    let pieces = bytes_of a.pieces.now in
    let same = c.loop-q.invariant.0 in
    let f = λ (point : ℕ). weighted_lists a.size point pieces in
    ext_get_or [] (rooms_of rooms) (map f a.points.now)
    (length-rooms_of rooms ∙ same ∙ sym (length-map a.points.now f))
    (λ i lt.
    let below = length-rooms_of rooms in
    c.loop-q.invariant.2 i (omega arith) ∙ sym (get_or-map f a.points.now i 0 [] (omega arith)))
