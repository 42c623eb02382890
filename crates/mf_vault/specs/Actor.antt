-- An actor of a file, and what each call of an access makes of it.
use Rattle.std.specs.Prelude.{ℕ, ◌-◌, Bool, true, false, List, [], ◌∷◌, ◌++◌, Option, Some, None}
use Rattle.mf_machine.specs.declared.answer.Slot.{Slot}
use Rattle.mf_machine.specs.declared.view.View.{View}
use Rattle.mf_machine.specs.Actors.{slot_of}
use Rattle.mf_machine.specs.declared.answer.Closed.{Closed}
use Rattle.mf_machine.specs.declared.answer.LoseStep.{LoseStep}
use Rattle.mf_machine.specs.declared.answer.LoseStep.TheVariants as losing
use Rattle.mf_machine.specs.declared.answer.State.{State}
use Rattle.mf_machine.specs.declared.answer.State.TheVariants as state
use Rattle.mf_machine.specs.File.Home.{keeps, empty}
use Rattle.mf_machine.specs.File.{name_word, removed}
use Rattle.mf_machine.specs.Moves.{Move, by, run}
use Rattle.mf_machine.specs.Moves as move
use Rattle.mf_machine.specs.Steps as row
use Rattle.mf_machine.specs.Steps.{begin_view, close_view, see_view, drop_answer, lose_answer, Drop}
use Rattle.mf_machine.specs.Words.{number_of, absent}
use Rattle.mf_machine.specs.Worlds.{World, actor, word_of}
use Rattle.mf_places.specs.declared.Name.{Name}
use Rattle.mf_places.specs.declared.servers.Servers.{Servers}
use Rattle.mf_vault.specs.declared.answers.Answer.{Answer}
use Rattle.mf_vault.specs.declared.answers.Answer.TheVariants as answer
use Rattle.mf_vault.specs.declared.answers.Entry.{Entry}
use Rattle.mf_vault.specs.declared.answers.Entry.TheVariants as entry
use Rattle.mf_vault.specs.declared.answers.Got.{Got}
use Rattle.mf_vault.specs.declared.answers.Got.TheVariants as got
use Rattle.mf_vault.specs.declared.answers.Op.{Op}
use Rattle.mf_vault.specs.declared.answers.Op.TheVariants as op
use Rattle.mf_vault.specs.declared.answers.Pinned.{Pinned}
use Rattle.mf_vault.specs.declared.answers.Pinned.TheVariants.{At, Absent, Removed}
use Rattle.mf_vault.specs.Facts.{Facts, file, number, cell_of}

-- what an access tells of its actor
pub record Actor : Type 0 where
  pub facts : Facts
  -- its view in the file machine, without the note of its last step and what it was last inside of
  pub view : View
  -- its ledger, and the servers that are cut off
  pub entries : List Entry
  pub cut : Servers
  -- the whole state, where the actor is alone
  pub whole : Option World

-- a call, with its answer
pub data Call : Type 0 where
  cut_off : Servers → Call
  -- with the generations that were found closed in turn before the answer
  pin : Slot → List ℕ → Pinned → Call
  unpin : Slot → Call
  begin : Bool → Call
  end : Call
  publish : ℕ → Call
  probe : Name → State → Call
  put : Name → Call
  restore : Name → Call
  close : ℕ → Closed → Call
  discard : Name → Bool → Call
  -- a get that ended for want of memory is a call too
  get : Name → Got → Call
  lose : Name → ℕ → Bool → Call

-- ---- the view after a call: the rows of the file machine, by the answer

abbrev pub pinned : Facts → Slot → Pinned → View → View
pinned f slot (At g) v = row.pinned slot g (row.looked (number_of g) v)
pinned f slot Absent v = row.looked absent v
pinned f slot Removed v = row.looked (removed (file f)) v

-- a closed generation that a pin meets is looked at, and missed
abbrev pub tried : Facts → Slot → List ℕ → Pinned → View → View
tried f slot [] p v = pinned f slot p v
tried f slot (g ∷ gs) p v = tried f slot gs p (row.missed g (row.looked (number_of g) v))

-- a chunk that couldn't be shared was met Here
abbrev pub got_by : ℕ → Got → View → View
got_by n (got.Here c) v = row.told_here n v
got_by n (got.Lost l) v = row.told_lost n l v
got_by n (got.Away s) v = v
got_by n got.Memory v = row.told_here n v

abbrev pub discarded : ℕ → Bool → View → View
discarded n true v = row.dropped n v
discarded n false v = row.not_dropped n v

abbrev pub lost_by : ℕ → ℕ → Bool → View → View
lost_by n l true v = row.lost n l v
lost_by n l false v = row.not_lost n v

abbrev pub seen : Facts → Call → View → View
seen f (cut_off s) v = v
seen f (pin slot gs p) v = tried f slot gs p v
seen f (unpin slot) v = row.unpinned slot v
seen f (begin b) v = begin_view b v
seen f end v = row.ended v
seen f (publish next) v = row.published next v
seen f (probe x s) v = see_view s (number f x) v
seen f (put x) v = row.born (number f x) v
seen f (restore x) v = row.restored (number f x) v
seen f (close g c) v = close_view c g v
seen f (discard x b) v = discarded (number f x) b v
seen f (get x o) v = got_by (number f x) o v
seen f (lose x l b) v = lost_by (number f x) l b v

-- ---- its entry in the ledger

abbrev pub noted : Op → Name → Answer → List Entry
noted o x a = entry.Chunk o x a ∷ []

abbrev pub state_answer : State → Answer
state_answer state.Unborn = answer.Unborn
state_answer state.Here = answer.Here
state_answer (state.Lost l) = answer.Lost l
state_answer (state.Away s) = answer.Away s

abbrev pub change_answer : Bool → Answer
change_answer true = answer.Done
change_answer false = answer.Nothing

-- want of memory has none
abbrev pub get_entry : Name → Got → List Entry
get_entry x (got.Here c) = noted op.Get x answer.Here
get_entry x (got.Lost l) = noted op.Get x (answer.Lost l)
get_entry x (got.Away s) = noted op.Get x (answer.Away s)
get_entry x got.Memory = []

abbrev pub entry_of : Call → List Entry
entry_of (cut_off s) = []
entry_of (pin slot gs p) = []
entry_of (unpin slot) = []
entry_of (begin b) = []
entry_of end = []
entry_of (publish next) = []
entry_of (probe x s) = noted op.Probe x (state_answer s)
entry_of (put x) = noted op.Put x answer.Done
entry_of (restore x) = noted op.Restore x answer.Done
entry_of (close g c) = entry.Close g c ∷ []
entry_of (discard x b) = noted op.Discard x (change_answer b)
entry_of (get x o) = get_entry x o
entry_of (lose x l b) = noted op.Lose x (change_answer b)

-- ---- its moves, where the actor is alone; its number is then 0

-- the actor has these bytes in its hand; it has nothing
abbrev pub brought : List ℕ → Move
brought bytes = by 0 (move.exchange (keeps bytes))

abbrev pub emptied : Move
emptied = by 0 (move.exchange empty)

abbrev pub pin_moves : Slot → Pinned → List Move
pin_moves slot (At g) = by 0 move.look ∷ by 0 (move.pin slot g) ∷ []
pin_moves slot Absent = by 0 move.look ∷ []
pin_moves slot Removed = by 0 move.look ∷ []

abbrev pub probe_moves : ℕ → State → List Move
probe_moves n state.Unborn = by 0 (move.see n) ∷ []
probe_moves n state.Here = by 0 (move.see n) ∷ []
probe_moves n (state.Lost l) = by 0 (move.see n) ∷ []
probe_moves n (state.Away s) = []

abbrev pub get_moves : ℕ → Got → List Move
get_moves n (got.Here c) = by 0 (move.take n) ∷ by 0 (move.give n) ∷ []
get_moves n (got.Lost l) = by 0 (move.take n) ∷ []
get_moves n (got.Away s) = []
get_moves n got.Memory = by 0 (move.take n) ∷ by 0 (move.give n) ∷ []

-- by what the first try meets
abbrev pub drop_moves : ℕ → Drop → List Move
drop_moves n row.drops = by 0 (move.drop n) ∷ emptied ∷ by 0 (move.dropped n) ∷ []
drop_moves n row.tries = by 0 (move.drop n) ∷ by 0 (move.drop_again n) ∷ []
drop_moves n row.nothing = by 0 (move.drop n) ∷ []

abbrev pub lose_moves : ℕ → ℕ → LoseStep → List Move
lose_moves n l losing.Done = by 0 (move.lose n l) ∷ emptied ∷ by 0 (move.lost n l) ∷ []
lose_moves n l losing.Nothing = by 0 (move.lose n l) ∷ []
lose_moves n l losing.Again = by 0 (move.lose n l) ∷ []

-- what a word of a name says
abbrev pub word_at : Facts → World → Name → ℕ
word_at f w x = word_of w (name_word (file f) (number f x))

abbrev pub moves : Facts → World → Call → List Move
moves f w (cut_off s) = []
moves f w (pin slot gs p) = pin_moves slot p
moves f w (unpin slot) = by 0 (move.unpin slot (slot_of slot (actor w 0) - 1)) ∷ []
moves f w (begin b) = by 0 move.begin ∷ []
moves f w end = by 0 move.end ∷ []
moves f w (publish next) = by 0 (move.publish next) ∷ []
moves f w (probe x s) = probe_moves (number f x) s
moves f w (put x) = by 0 (move.birth (number f x)) ∷ brought (cell_of f x) ∷ by 0 (move.born (number f x)) ∷ []
moves f w (restore x) = by 0 (move.retake (number f x)) ∷ brought (cell_of f x) ∷ by 0 (move.restored (number f x)) ∷ []
moves f w (close g c) = by 0 (move.close g) ∷ []
moves f w (discard x b) = drop_moves (number f x) (drop_answer (word_at f w x))
moves f w (get x o) = get_moves (number f x) o
moves f w (lose x l b) = lose_moves (number f x) l (lose_answer (word_at f w x))

-- the whole state after a call
abbrev pub onward : (World → World) → Option World → Option World
onward h None = None
onward h (Some w) = Some (h w)

-- ---- the actor after a call

abbrev pub cut_by : Call → Servers → Servers
cut_by (cut_off s) old = s
cut_by (pin slot gs p) old = old
cut_by (unpin slot) old = old
cut_by (begin b) old = old
cut_by end old = old
cut_by (publish next) old = old
cut_by (probe x s) old = old
cut_by (put x) old = old
cut_by (restore x) old = old
cut_by (close g c) old = old
cut_by (discard x b) old = old
cut_by (get x o) old = old
cut_by (lose x l b) old = old

abbrev pub did : Call → Actor → Actor
did c a = record {
  facts = a.facts;
  view = seen a.facts c a.view;
  entries = a.entries ++ entry_of c;
  cut = cut_by c a.cut;
  whole = onward (λ w. run (file a.facts) w (moves a.facts w c)) a.whole;
}
