-- The steps, each with where it may happen, what it answers, what it changes in its actor's view by the answer, and its
-- row: the word that it is on, and what that word, the slot and the view become by the value met. The moves that are no
-- steps stand last.
use Rattle.std.specs.Prelude.{◌≡◌, ◌⊎◌, ℕ, ◌+◌, ◌-◌, ◌/◌, ◌<◌, ◌≤◌, ◌==◌, Bool, true, false, cond}
use Rattle.std.specs.Prelude.{[], ◌∷◌, ◌++◌, max}
use Rattle.mf_machine.specs.declared.answer.Closed.{Closed}
use Rattle.mf_machine.specs.declared.answer.Closed.TheVariants as closing
use Rattle.mf_machine.specs.declared.answer.LoseStep.{LoseStep}
use Rattle.mf_machine.specs.declared.answer.LoseStep.TheVariants as lose
use Rattle.mf_machine.specs.declared.answer.Slot.{Slot}
use Rattle.mf_machine.specs.declared.answer.Slot.TheVariants.{Hold, Work}
use Rattle.mf_machine.specs.declared.answer.State.{State as Told}
use Rattle.mf_machine.specs.declared.answer.State.TheVariants as told
use Rattle.mf_machine.specs.declared.view.View.{View}
use Rattle.mf_machine.specs.Actors.{Active, Idle, Free, HasTurn, HasRight, LacksRight, HasLooked, LastLooked, Among}
use Rattle.mf_machine.specs.Actors.{live, IsFreeSlot, IsPinnedOn, NeverSawShut, IsGetting, IsBearing, IsRetaking}
use Rattle.mf_machine.specs.Actors.{IsLosing, IsDropping, IsTrying, PinHolds, NextHolds, WorkHolds, AllShown}
use Rattle.mf_machine.specs.Counts.{up_to, beyond, without}
use Rattle.mf_machine.specs.File.{File, Holds, IsLoseLine, name_word, removed}
use Rattle.mf_machine.specs.Words as word
use Rattle.mf_machine.specs.Words.{number_word, right_word, pins_word, closed_bit, is_open, is_lost, is_here, line_of}
use Rattle.mf_machine.specs.Words.{no, yes, no_pins, number_of, vacant, filled}
use Rattle.mf_machine.specs.Worlds.{Row, word_row, here_row, turn_row, back_row, steps, silent, fresh}

-- look: always. It answers the published number

-- where it may happen
abbrev pub MayLook : View → Type 0
MayLook v = Active v × Idle v

-- the number is looked at
abbrev pub looked : ℕ → View → View
looked number v = record v {
  last = filled number;
  build = record v.build { looked = v.build.right };
  seen = record v.seen { number = number };
  own = record v.own { numbers = number ∷ v.own.numbers };
}

-- its row
abbrev pub look_row : Row
look_row = word_row number_word (λ x. x) looked

-- pin: the slot is free, the number last looked at is that of g, and g wasn't answered Closed. False exactly where
-- g is closed; the pin then stays counted in the word, and in the view as a stray

-- where it may happen
abbrev pub MayPin : File → Slot → ℕ → View → Type 0
MayPin f slot g v = Active v × Idle v × (g < f.stages) × IsFreeSlot slot v × LastLooked v.last (number_of g)
    × NeverSawShut g v

-- what it answers to the word met
abbrev pub pin_answer : ℕ → Bool
pin_answer x = is_open x

-- the pin is in the slot
abbrev pub pinned : Slot → ℕ → View → View
pinned Hold g v = record v { hold = filled g; own = record v.own { opened = g ∷ v.own.opened } }
pinned Work g v = record v { work = filled g; own = record v.own { opened = g ∷ v.own.opened } }

-- the pin fell on a closed generation
abbrev pub missed : ℕ → View → View
missed g v = record v {
  strays = g ∷ v.strays;
  seen = record v.seen { shut = g ∷ v.seen.shut };
  own = record v.own { missed = g ∷ v.own.missed };
}

-- the actor's view by the answer
abbrev pub pin_view : Bool → Slot → ℕ → View → View
pin_view true slot g v = pinned slot g v
pin_view false slot g v = missed g v

-- its row
abbrev pub pin_row : Slot → ℕ → Row
pin_row slot g = word_row (pins_word g) (λ x. x + 1) (λ x. pin_view (pin_answer x) slot g)

-- unpin: the slot is pinned, and the actor has no name Taken

-- where it may happen
abbrev pub MayUnpin : File → Slot → ℕ → View → Type 0
MayUnpin f slot g v = Active v × Free v × IsPinnedOn g slot v

-- the slot is free
abbrev pub unpinned : Slot → View → View
unpinned Hold v = record v { hold = vacant }
unpinned Work v = record v { work = vacant }

-- its row
abbrev pub unpin_row : Slot → ℕ → Row
unpin_row slot g = word_row (pins_word g) (λ x. x - 1) (λ x. unpinned slot)

-- close: a number above that of g was seen. Done where g has no pin, and it is then closed for good; Pins(n) where it
-- has n; Already where it is closed

-- where it may happen
abbrev pub MayClose : File → ℕ → View → Type 0
MayClose f g v = Active v × Idle v × (g < f.stages) × (number_of g < v.seen.number)

-- what it answers to the word met
abbrev pub close_answer : ℕ → Closed
close_answer x = cond (x == no_pins) closing.Done (cond (is_open x) (closing.Pins x) closing.Already)

-- the generation is closed
abbrev pub closed_done : ℕ → View → View
closed_done g v = record v {
  seen = record v.seen { shut = g ∷ v.seen.shut };
  made = record v.made { closings = g ∷ v.made.closings };
  own = record v.own { closed = g ∷ v.own.closed };
}

-- it has pins
abbrev pub closed_pins : (g n : ℕ) → View → View
closed_pins g n v = record v {
  own = record v.own { pinned = (record { generation = g; pins = n; own = live g v }) ∷ v.own.pinned };
}

-- it was closed
abbrev pub closed_already : ℕ → View → View
closed_already g v = record v {
  seen = record v.seen { shut = g ∷ v.seen.shut };
  own = record v.own { already = g ∷ v.own.already };
}

-- the actor's view by the answer
abbrev pub close_view : Closed → ℕ → View → View
close_view closing.Done g v = closed_done g v
close_view (closing.Pins n) g v = closed_pins g n v
close_view closing.Already g v = closed_already g v

-- its row
abbrev pub close_row : ℕ → Row
close_row g = word_row (pins_word g) (λ x. cond (x == no_pins) closed_bit x) (λ x. close_view (close_answer x) g)

-- begin: the actor hasn't the right. False exactly where it is held

-- where it may happen
abbrev pub MayBegin : View → Type 0
MayBegin v = Active v × Idle v × LacksRight v.build

-- what it answers to the word met
abbrev pub begin_answer : ℕ → Bool
begin_answer x = x == word.free

-- the actor has the right
abbrev pub begun : View → View
begun v = record v {
  build = record { right = yes; looked = no; unborn = []; lost = []; settled = [] };
  own = record v.own { begun = v.own.begun + 1 };
}

-- it hasn't
abbrev pub refused : View → View
refused v = record v { own = record v.own { refused = v.own.refused + 1 } }

-- the actor's view by the answer
abbrev pub begin_view : Bool → View → View
begin_view true v = begun v
begin_view false v = refused v

-- its row
abbrev pub begin_row : Row
begin_row = word_row right_word (λ x. cond (x == word.free) word.held x) (λ x. begin_view (begin_answer x))

-- end: the actor has the right

-- where it may happen
abbrev pub MayEnd : View → Type 0
MayEnd v = Active v × Idle v × HasRight v.build

-- it hasn't the right any more
abbrev pub ended : View → View
ended v = record v { build = record v.build { right = no; looked = no } }

-- its row
abbrev pub end_row : Row
end_row = word_row right_word (λ x. word.free) (λ x. ended)

-- publish: the actor has the right, and it has looked at the number m since its begin. Next is the number of
-- generation m, and each of its names was put, restored or answered Here or Lost since; or next says that the file is
-- removed

-- where it may happen
abbrev pub MayPublish : File → ℕ → View → Type 0
MayPublish f next v = Active v × Idle v × HasRight v.build × HasLooked v.build × ((m : ℕ) × LastLooked v.last m
    × (((next ≡ number_of m) × (next ≤ f.stages) × ((n : ℕ) → n < f.names → Holds f m n → Among n v.build.settled))
    ⊎ ((next ≡ removed f) × (1 ≤ m) × (m ≤ f.stages))))

-- the number is published, and looked at
abbrev pub published : ℕ → View → View
published next v = record v {
  last = filled next;
  seen = record v.seen { number = next };
  made = record v.made { numbers = next ∷ v.made.numbers };
  own = record v.own { numbers = next ∷ v.own.numbers };
}

-- its row
abbrev pub publish_row : ℕ → Row
publish_row next = word_row number_word (λ x. next) (λ x. published next)

-- see: a pinned generation holds the name, or the next one does and the actor has the right. It tells what the name
-- is; Taken is answered as Here

-- where it may happen
abbrev pub MaySee : File → ℕ → View → Type 0
MaySee f n v = Active v × Idle v × (n < f.names) × (PinHolds f v.hold v.work n ⊎ NextHolds f v.build v.last n)

-- what it answers to the word met
abbrev pub see_answer : ℕ → Told
see_answer x = cond (x == word.unborn) told.Unborn (cond (is_lost x) (told.Lost (line_of x)) told.Here)

-- the name is Unborn
abbrev pub told_unborn : ℕ → View → View
told_unborn n v = record v {
  build = record v.build { unborn = n ∷ v.build.unborn };
  own = record v.own { unborn = n ∷ v.own.unborn };
}

-- it is Here, or Taken
abbrev pub told_here : ℕ → View → View
told_here n v = record v {
  build = record v.build { settled = n ∷ v.build.settled };
  seen = record v.seen { born = n ∷ v.seen.born };
  own = record v.own { here = n ∷ v.own.here };
}

-- it is Lost by this line
abbrev pub told_lost : (n line : ℕ) → View → View
told_lost n line v = record v {
  build = record v.build { lost = n ∷ v.build.lost; settled = n ∷ v.build.settled };
  seen = record v.seen { born = n ∷ v.seen.born };
  own = record v.own { lost = (record { name = n; line = line }) ∷ v.own.lost };
}

-- Away comes without a step, and changes nothing
abbrev pub see_view : Told → ℕ → View → View
see_view told.Unborn n v = told_unborn n v
see_view told.Here n v = told_here n v
see_view (told.Lost line) n v = told_lost n line v
see_view (told.Away server) n v = v

-- its row
abbrev pub see_row : File → ℕ → Row
see_row f n = word_row (name_word f n) (λ x. x) (λ x. see_view (see_answer x) n)

-- take: a pinned generation holds the name, and the actor has no name Taken. It answers the chunk, and the name is
-- Taken; Lost with its line; or Again where it was Taken

-- where it may happen
abbrev pub MayTake : File → ℕ → View → Type 0
MayTake f n v = Active v × Free v × (n < f.names) × PinHolds f v.hold v.work n

-- what a take answers
pub data Take : Type 0 where
  chunk : Take
  gone : ℕ → Take
  again : Take

-- what it answers to the word met
abbrev pub take_answer : ℕ → Take
take_answer x = cond (is_here x) chunk (cond (is_lost x) (gone (line_of x)) again)

-- the name is Taken in a get
abbrev pub took : ℕ → View → View
took n v = record (told_here n v) { inside = record v.inside { getting = filled n } }

-- the actor's view by the answer
abbrev pub take_view : Take → ℕ → View → View
take_view chunk n v = took n v
take_view (gone line) n v = told_lost n line v
take_view again n v = v

-- its row
abbrev pub take_row : File → ℕ → Row
take_row f n = here_row f n (λ x. take_view (take_answer x) n)

-- give: the name is Taken by the actor, in a get, and its hand has the cell. The step is counted, and the note of the
-- last step stays

-- where it may happen
abbrev pub MayGive : ℕ → View → Type 0
MayGive n v = Active v × IsGetting v.inside n

-- the get is over
abbrev pub gave : View → View
gave v = record v { inside = record v.inside { getting = vacant } }

-- its row
abbrev pub give_row : File → ℕ → Row
give_row f n = back_row f n word.here gave steps

-- birth: with the right, the next generation holds the name, it was answered Unborn since the begin and not put
-- since, and the actor has no name Taken. The name is Taken; and then Here, where the hand has the cell

-- where it may happen
abbrev pub MayBirth : File → ℕ → View → Type 0
MayBirth f n v = Active v × Free v × (n < f.names) × NextHolds f v.build v.last n × Among n v.build.unborn

-- the name is Taken in a birth
abbrev pub bearing : ℕ → View → View
bearing n v = record v { inside = record v.inside { bearing = filled n } }

-- its row
abbrev pub birth_row : File → ℕ → Row
birth_row f n = turn_row f n (bearing n)

-- the actor is inside the birth
abbrev pub MayBeBorn : ℕ → View → Type 0
MayBeBorn n v = Active v × IsBearing v.inside n

-- it is Here
abbrev pub born : ℕ → View → View
born n v = record v {
  build = record v.build { unborn = without n v.build.unborn; settled = n ∷ v.build.settled };
  seen = record v.seen { born = n ∷ v.seen.born };
  made = record v.made { changes = record v.made.changes { put = n ∷ v.made.changes.put } };
  own = record v.own { put = n ∷ v.own.put };
  inside = record v.inside { bearing = vacant };
}

-- its row
abbrev pub born_row : File → ℕ → Row
born_row f n = back_row f n word.here (born n) silent

-- retake: with the right, the Work pin's generation or the next one holds the name, it was answered Lost since the
-- begin and not restored since, and the actor has no name Taken. The name is Taken; and then Here, where the hand has
-- the cell

-- where it may happen
abbrev pub MayRetake : File → ℕ → View → Type 0
MayRetake f n v = Active v × Free v × (n < f.names) × WorkHolds f v.build v.last v.work n × Among n v.build.lost

-- the name is Taken in a retake
abbrev pub retaking : ℕ → View → View
retaking n v = record v { inside = record v.inside { retaking = filled n } }

-- its row
abbrev pub retake_row : File → ℕ → Row
retake_row f n = turn_row f n (retaking n)

-- the actor is inside the retake
abbrev pub MayBeRestored : ℕ → View → Type 0
MayBeRestored n v = Active v × IsRetaking v.inside n

-- it is Here again
abbrev pub restored : ℕ → View → View
restored n v = record v {
  build = record v.build { lost = without n v.build.lost; settled = n ∷ v.build.settled };
  seen = record v.seen { born = n ∷ v.seen.born };
  made = record v.made { changes = record v.made.changes { restored = n ∷ v.made.changes.restored } };
  own = record v.own { restored = n ∷ v.own.restored };
  inside = record v.inside { retaking = vacant };
}

-- its row
abbrev pub restored_row : File → ℕ → Row
restored_row f n = back_row f n word.here (restored n) silent

-- lose: the line is a lose line of the name's server, and the actor has no name Taken. Done where the name was Here:
-- it is Taken, and then Lost by the line, where the hand is empty; Again where it was Taken; else Nothing

-- where it may happen
abbrev pub MayLose : File → (n line : ℕ) → View → Type 0
MayLose f n line v = Active v × Free v × (n < f.names) × IsLoseLine f n line

-- what it answers to the word met
abbrev pub lose_answer : ℕ → LoseStep
lose_answer x = cond (is_here x) lose.Done (cond (x == word.taken) lose.Again lose.Nothing)

-- the name is Taken in a lose
abbrev pub losing : (n line : ℕ) → View → View
losing n line v = record v { inside = record v.inside { losing = filled n; line = line } }

-- nothing changes
abbrev pub not_lost : ℕ → View → View
not_lost n v = record v { own = record v.own { not_lost = n ∷ v.own.not_lost } }

-- the actor's view by the answer
abbrev pub lose_view : LoseStep → (n line : ℕ) → View → View
lose_view lose.Done n line v = losing n line v
lose_view lose.Again n line v = v
lose_view lose.Nothing n line v = not_lost n v

-- its row
abbrev pub lose_row : File → (n line : ℕ) → Row
lose_row f n line = here_row f n (λ x. lose_view (lose_answer x) n line)

-- the actor is inside the lose, which began with this line
abbrev pub MayBeLost : File → (n line : ℕ) → View → Type 0
MayBeLost f n line v = Active v × IsLosing v.inside n × (v.inside.line ≡ line) × IsLoseLine f n line

-- it is Lost by the line
abbrev pub lost : (n line : ℕ) → View → View
lost n line v = record v {
  made = record v.made {
    changes = record v.made.changes { lost = (record { name = n; line = line }) ∷ v.made.changes.lost };
  };
  own = record v.own { made_lost = (record { name = n; line = line }) ∷ v.own.made_lost };
  inside = record v.inside { losing = vacant };
}

-- its row
abbrev pub lost_row : File → (n line : ℕ) → Row
lost_row f n line = back_row f n (word.lost line) (lost n line) silent

-- drop: a close of each generation that holds the name was answered Done or Already, and the actor has no name Taken.
-- Where the name was Here it is Taken, and then Dropped, where the hand is empty. Where it was Lost, a second try drops
-- it at once if it still has the word that the first try met. Otherwise nothing changes

-- where it may happen
abbrev pub MayDrop : File → ℕ → View → Type 0
MayDrop f n v = Active v × Free v × (n < f.names) × AllShown f v.own n

-- what the first try answers: it drops, it is made again, or there is nothing to drop
pub data Drop : Type 0 where
  drops : Drop
  tries : Drop
  nothing : Drop

-- what it answers to the word met
abbrev pub drop_answer : ℕ → Drop
drop_answer x = cond (is_here x) drops (cond (is_lost x) tries nothing)

-- the name is Taken in a drop
abbrev pub dropping : ℕ → View → View
dropping n v = record v { inside = record v.inside { dropping = filled n } }

-- the drop is between its tries, and the first one met x
abbrev pub trying : (n x : ℕ) → View → View
trying n x v = record v { inside = record v.inside { trying = filled n; tried = x } }

-- nothing changes
abbrev pub not_dropped : ℕ → View → View
not_dropped n v = record v {
  own = record v.own { not_dropped = n ∷ v.own.not_dropped };
  inside = record v.inside { trying = vacant };
}

-- the actor's view by the answer
abbrev pub drop_view : Drop → (n x : ℕ) → View → View
drop_view drops n x v = dropping n v
drop_view tries n x v = trying n x v
drop_view nothing n x v = not_dropped n v

-- its row
abbrev pub drop_row : File → ℕ → Row
drop_row f n = here_row f n (λ x. drop_view (drop_answer x) n x)

-- the drop is between its tries
abbrev pub MayDropAgain : ℕ → View → Type 0
MayDropAgain n v = Active v × IsTrying v.inside n

-- what it answers to the word met
abbrev pub drop_again_answer : (tried x : ℕ) → Bool
drop_again_answer tried x = x == tried

-- the second try dropped the name
abbrev pub dropped_lost : ℕ → View → View
dropped_lost n v = record v {
  seen = record v.seen { dropped = n ∷ v.seen.dropped };
  made = record v.made { changes = record v.made.changes { dropped = n ∷ v.made.changes.dropped } };
  own = record v.own { dropped = n ∷ v.own.dropped };
  inside = record v.inside { trying = vacant };
}

-- the actor's view by the answer
abbrev pub drop_again_view : Bool → ℕ → View → View
drop_again_view true n v = dropped_lost n v
drop_again_view false n v = not_dropped n v

-- its row
abbrev pub drop_again_row : File → (tried n : ℕ) → Row
drop_again_row f tried n = word_row (name_word f n) (λ x. cond (x == tried) word.dropped x)
    (λ x. drop_again_view (drop_again_answer tried x) n)

-- the actor is inside the drop
abbrev pub MayBeDropped : ℕ → View → Type 0
MayBeDropped n v = Active v × IsDropping v.inside n

-- it is Dropped
abbrev pub dropped : ℕ → View → View
dropped n v = record v {
  seen = record v.seen { dropped = n ∷ v.seen.dropped };
  made = record v.made { changes = record v.made.changes { dropped = n ∷ v.made.changes.dropped } };
  own = record v.own { dropped = n ∷ v.own.dropped };
  inside = record v.inside { dropping = vacant };
}

-- its row
abbrev pub dropped_row : File → ℕ → Row
dropped_row f n = back_row f n word.dropped (dropped n) silent

-- exchange: with the turn of a slot. The hand gets other bytes, or none

-- where it may happen
abbrev pub MayExchange : View → Type 0
MayExchange v = Active v × HasTurn v

-- split: the new actor has half the share, the same Seen, and the strays that are too many for the old one

-- where it may happen
abbrev pub MaySplit : View → Type 0
MaySplit v = 2 ≤ v.share

-- what stays with the old actor
abbrev pub kept_share : View → ℕ
kept_share v = v.share - v.share / 2

-- the old actor
abbrev pub old_half : View → View
old_half v = record v { share = kept_share v; strays = up_to (kept_share v) v.strays }

-- the new one
abbrev pub new_half : View → View
new_half v = fresh (v.share / 2) (beyond (kept_share v) v.strays) v.seen

-- join: the other actor has no pin, no right and no name Taken. The staying one has both shares, strays, Seens and
-- Mades, and the other's Mets beside its own

-- where it may happen
abbrev pub MayJoin : (v other : View) → Type 0
MayJoin v other = Active v × Active other × LacksRight other.build × IsFreeSlot Hold other × IsFreeSlot Work other
    × Free other

-- the staying actor
abbrev pub joined : (v other : View) → View
joined v w = record v {
  share = v.share + w.share;
  strays = v.strays ++ w.strays;
  seen = record {
    number = max v.seen.number w.seen.number;
    shut = v.seen.shut ++ w.seen.shut;
    born = v.seen.born ++ w.seen.born;
    dropped = v.seen.dropped ++ w.seen.dropped;
  };
  made = record {
    numbers = v.made.numbers ++ w.made.numbers;
    closings = v.made.closings ++ w.made.closings;
    changes = record {
      put = v.made.changes.put ++ w.made.changes.put;
      lost = v.made.changes.lost ++ w.made.changes.lost;
      restored = v.made.changes.restored ++ w.made.changes.restored;
      dropped = v.made.changes.dropped ++ w.made.changes.dropped;
    };
  };
  gone = v.gone ++ w.own ∷ w.gone;
}
