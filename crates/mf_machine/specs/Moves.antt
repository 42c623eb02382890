-- The moves of all actors, lists of them, and the worlds that they reach.
use Rattle.std.specs.Prelude.{◌≡◌, ◌≢◌, ℕ, List, [], ◌∷◌, ◌++◌, slice_set}
use Rattle.mf_machine.specs.declared.answer.Slot.{Slot}
use Rattle.mf_machine.specs.File.{File, Opening, Home, HasCell}
use Rattle.mf_machine.specs.File.Home.{away, empty}
use Rattle.mf_machine.specs.Rest.{Rest}
use Rattle.mf_machine.specs.Steps as row
use Rattle.mf_machine.specs.Steps.{MayLook, MayPin, MayUnpin, MayClose, MayBegin, MayEnd, MayPublish, MaySee, MayTake}
use Rattle.mf_machine.specs.Steps.{MayGive, MayBirth, MayBeBorn, MayRetake, MayBeRestored, MayLose, MayBeLost, MayDrop}
use Rattle.mf_machine.specs.Steps.{MayDropAgain, MayBeDropped, MayExchange, MaySplit, MayJoin}
use Rattle.mf_machine.specs.Worlds.{World, Opens, actor, put, acts, spent_view}

-- what an actor does. A birth, retake, lose or drop begins with a turn and ends with a return, and so do a take and a
-- give
pub data Deed : Type 0 where
  look : Deed
  pin : Slot → ℕ → Deed
  unpin : Slot → ℕ → Deed
  close : ℕ → Deed
  begin : Deed
  end : Deed
  publish : ℕ → Deed
  see : ℕ → Deed
  take : ℕ → Deed
  give : ℕ → Deed
  birth : ℕ → Deed
  born : ℕ → Deed
  lose : (n line : ℕ) → Deed
  lost : (n line : ℕ) → Deed
  retake : ℕ → Deed
  restored : ℕ → Deed
  drop : ℕ → Deed
  drop_again : ℕ → Deed
  dropped : ℕ → Deed
  exchange : Home → Deed
  split : Deed
  join : ℕ → Deed

-- a move: the actor, and what it does
pub record Move : Type 0 where
  pub who : ℕ
  pub does : Deed

-- the actor does so
abbrev pub by : ℕ → Deed → Move
by id d = record { who = id; does = d }

-- where the actor may do so. A give, birth or retake brings home the name's cell, a lose or drop an empty slot
abbrev pub MayDo : File → World → ℕ → Deed → Type 0
MayDo f w id look = MayLook (actor w id)
MayDo f w id (pin slot g) = MayPin f slot g (actor w id)
MayDo f w id (unpin slot g) = MayUnpin f slot g (actor w id)
MayDo f w id (close g) = MayClose f g (actor w id)
MayDo f w id begin = MayBegin (actor w id)
MayDo f w id end = MayEnd (actor w id)
MayDo f w id (publish next) = MayPublish f next (actor w id)
MayDo f w id (see n) = MaySee f n (actor w id)
MayDo f w id (take n) = MayTake f n (actor w id)
MayDo f w id (give n) = MayGive n (actor w id) × HasCell f n (w.hands id)
MayDo f w id (birth n) = MayBirth f n (actor w id)
MayDo f w id (born n) = MayBeBorn n (actor w id) × HasCell f n (w.hands id)
MayDo f w id (lose n l) = MayLose f n l (actor w id)
MayDo f w id (lost n l) = MayBeLost f n l (actor w id) × (w.hands id ≡ empty)
MayDo f w id (retake n) = MayRetake f n (actor w id)
MayDo f w id (restored n) = MayBeRestored n (actor w id) × HasCell f n (w.hands id)
MayDo f w id (drop n) = MayDrop f n (actor w id)
MayDo f w id (drop_again n) = MayDropAgain n (actor w id)
MayDo f w id (dropped n) = MayBeDropped n (actor w id) × (w.hands id ≡ empty)
MayDo f w id (exchange h) = MayExchange (actor w id) × (h ≢ away)
MayDo f w id split = MaySplit (actor w id)
MayDo f w id (join other) = (other ≢ id) × MayJoin (actor w id) (actor w other)

-- where a move may happen
abbrev pub May : File → World → Move → Type 0
May f w m = MayDo f w m.who m.does

-- the world after that
abbrev pub done : File → World → ℕ → Deed → World
done f w id look = acts row.look_row w id
done f w id (pin slot g) = acts (row.pin_row slot g) w id
done f w id (unpin slot g) = acts (row.unpin_row slot g) w id
done f w id (close g) = acts (row.close_row g) w id
done f w id begin = acts row.begin_row w id
done f w id end = acts row.end_row w id
done f w id (publish next) = acts (row.publish_row next) w id
done f w id (see n) = acts (row.see_row f n) w id
done f w id (take n) = acts (row.take_row f n) w id
done f w id (give n) = acts (row.give_row f n) w id
done f w id (birth n) = acts (row.birth_row f n) w id
done f w id (born n) = acts (row.born_row f n) w id
done f w id (lose n l) = acts (row.lose_row f n l) w id
done f w id (lost n l) = acts (row.lost_row f n l) w id
done f w id (retake n) = acts (row.retake_row f n) w id
done f w id (restored n) = acts (row.restored_row f n) w id
done f w id (drop n) = acts (row.drop_row f n) w id
done f w id (drop_again n) = acts (row.drop_again_row f (actor w id).inside.tried n) w id
done f w id (dropped n) = acts (row.dropped_row f n) w id
done f w id (exchange h) = record w { hands = put w.hands id h }
done f w id split = record w {
  views = slice_set w.views id (row.old_half (actor w id)) ++ row.new_half (actor w id) ∷ [];
}
done f w id (join other) = record w {
  views = slice_set (slice_set w.views id (row.joined (actor w id) (actor w other))) other spent_view;
}

-- the world after a move
abbrev pub after : File → World → Move → World
after f w m = done f w m.who m.does

-- a list of moves, each where it may happen
abbrev pub Runs : File → World → List Move → Type 0
Runs f w [] = Unit {0}
Runs f w (m ∷ ms) = May f w m × Runs f (after f w m) ms

-- the world after a list of moves
abbrev pub run : File → World → List Move → World
run f w [] = w
run f w (m ∷ ms) = run f (after f w m) ms

-- a world that some list of moves reaches from a file at rest
abbrev pub Reached : File → Opening → World → Type 0
Reached f k w = (first : World) × (ms : List Move) × Rest f k × Opens f k first × Runs f first ms × (run f first ms ≡ w)
