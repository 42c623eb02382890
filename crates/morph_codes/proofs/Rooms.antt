-- Rooms that are filled one after the other.
use Rattle.std.proofs.Common.{◌≡◌, ℕ, ◌<◌, List, [], length, get_or, slice_set, inl, inr, subst, sym, ap, ◌∙◌, arith}
use Rattle.std.proofs.lemmas.Bool.{cases_lt}
use Rattle.std.proofs.lemmas.List.{length-map, get_or-map, map-set, get_or-set_other}
use Rattle.std.proofs.lemmas.Grind.{get_or-set_at}
use Rattle.morph_codes.specs.declared.handed.Room.{Room}
use Rattle.morph_codes.specs.Handed.{rooms_of}

pub length-rooms_of : (rooms : List Room) → length (rooms_of rooms) ≡ length rooms
length-rooms_of rooms = length-map rooms (λ (r : Room). r.bytes.now)

-- a room's bytes among all
pub room_at : (rooms : List Room) (p : ℕ) (d : Room) (e : List ℕ) → p < length rooms
    → get_or (rooms_of rooms) p e ≡ (get_or rooms p d).bytes.now
room_at rooms p d e lt = get_or-map (λ (r : Room). r.bytes.now) rooms p d e lt

-- the room that is filled, and the others
pub room_set : (rooms : List Room) (p q : ℕ) (room : Room) → p < length rooms → q ≡ p
    → get_or (rooms_of (slice_set rooms p room)) q [] ≡ room.bytes.now
room_set rooms p q room lt same =
    ap (λ (xs : List (List ℕ)). get_or xs q []) (map-set (λ (r : Room). r.bytes.now) rooms p room)
    ∙ get_or-set_at (rooms_of rooms) p q room.bytes.now [] same (omega (arith, length-rooms_of rooms))

pub room_kept : (rooms : List Room) (p q : ℕ) (room : Room) → (q ≡ p → ⊥)
    → get_or (rooms_of (slice_set rooms p room)) q [] ≡ get_or (rooms_of rooms) q []
room_kept rooms p q room other =
    ap (λ (xs : List (List ℕ)). get_or xs q []) (map-set (λ (r : Room). r.bytes.now) rooms p room)
    ∙ get_or-set_other (rooms_of rooms) p q room.bytes.now [] other

-- a room, one more of which is as wanted
pub room_more : (P : ℕ → List ℕ → Type 0) (rooms : List Room) (p q : ℕ) (room : Room) → p < length rooms
    → P p room.bytes.now → ((q ≡ p → ⊥) → P q (get_or (rooms_of rooms) q []))
    → P q (get_or (rooms_of (slice_set rooms p room)) q [])
room_more P rooms p q room lt here others = elim (cases_lt q p) [
  | inl below ↦ subst (λ (xs : List ℕ). P q xs) (sym (room_kept rooms p q room (λ e. omega arith)))
      (others (λ e. omega arith))
  | inr high ↦ elim (cases_lt p q) [
    | inl above ↦ subst (λ (xs : List ℕ). P q xs) (sym (room_kept rooms p q room (λ e. omega arith)))
        (others (λ e. omega arith))
    | inr low ↦
        let same : q ≡ p = omega arith in
        subst (λ (xs : List ℕ). P q xs) (sym (room_set rooms p q room lt same))
        (subst (λ (n : ℕ). P n room.bytes.now) (sym same) here)
  ]
]

-- a room that stands where there is none
abbrev pub no_room : Room
no_room = record { bytes = record { ref_ptr = (0, 0); ghost_name = 0; now = [] } }
