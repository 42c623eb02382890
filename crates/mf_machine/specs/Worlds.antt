-- The words, slots and actors of a file in the order of a table, and what one row of the steps does to them.
use Rattle.std.specs.Prelude.{◌≡◌, ℕ, ◌+◌, ◌*◌, ◌<◌, ◌==◌, List, [], ◌∷◌, length, cond, not}
use Rattle.std.specs.Prelude.{slice_index, slice_index_or, slice_set}
use Rattle.mf_machine.specs.declared.view.Build.{Build}
use Rattle.mf_machine.specs.declared.view.Changes.{Changes}
use Rattle.mf_machine.specs.declared.view.Inside.{Inside}
use Rattle.mf_machine.specs.declared.view.Made.{Made}
use Rattle.mf_machine.specs.declared.view.Met.{Met}
use Rattle.mf_machine.specs.declared.view.Seen.{Seen}
use Rattle.mf_machine.specs.declared.view.Step.{Step}
use Rattle.mf_machine.specs.declared.view.View.{View}
use Rattle.mf_machine.specs.Counts.{truth, those}
use Rattle.mf_machine.specs.File.{File, Opening, State, Home, name_word}
use Rattle.mf_machine.specs.File.Home.{away, empty}
use Rattle.mf_machine.specs.Words as word
use Rattle.mf_machine.specs.Words.{number_word, right_word, pins_word, closed_bit, is_here, no, whole_share, vacant}

-- no change of a name
abbrev pub no_changes : Changes
no_changes = record { put = []; lost = []; restored = []; dropped = [] }

-- nothing made
abbrev pub nothing_made : Made
nothing_made = record { numbers = []; closings = []; changes = no_changes }

-- nothing met
abbrev pub nothing_met : Met
nothing_met = record {
  numbers = [];
  begun = 0;
  refused = 0;
  opened = [];
  missed = [];
  closed = [];
  already = [];
  pinned = [];
  unborn = [];
  here = [];
  lost = [];
  put = [];
  restored = [];
  made_lost = [];
  dropped = [];
  not_lost = [];
  not_dropped = [];
}

-- nothing begun
abbrev pub nothing_built : Build
nothing_built = record { right = no; looked = no; unborn = []; lost = []; settled = [] }

-- nothing seen
abbrev pub nothing_seen : Seen
nothing_seen = record { number = 0; shut = []; born = []; dropped = [] }

-- inside of nothing
abbrev pub outside : Inside
outside = record {
  getting = vacant;
  bearing = vacant;
  retaking = vacant;
  losing = vacant;
  dropping = vacant;
  trying = vacant;
  line = 0;
  tried = 0;
}

-- no step yet
abbrev pub no_step : Step
no_step = record { count = 0; word = 0; met = 0 }

-- a new actor with this share, these strays and this Seen
abbrev pub fresh : ℕ → List ℕ → Seen → View
fresh share strays seen = record {
  share = share;
  strays = strays;
  hold = vacant;
  work = vacant;
  last = vacant;
  build = nothing_built;
  seen = seen;
  made = nothing_made;
  own = nothing_met;
  gone = [];
  inside = outside;
  step = no_step;
}

-- an actor that another took in
abbrev pub spent_view : View
spent_view = fresh 0 [] nothing_seen

-- the first actor has the whole share, and has seen all that the resting file holds
abbrev pub first_seen : File → Opening → Seen
first_seen f k = record {
  number = k.number;
  shut = those k.closed f.stages;
  born = those (λ n. not (k.name n == word.unborn)) f.names;
  dropped = those (λ n. k.name n == word.dropped) f.names;
}

-- the first actor
abbrev pub first_view : File → Opening → View
first_view f k = fresh whole_share [] (first_seen f k)

-- the words; the slot of each name; the actors; and what each has in its hand of the slot whose turn it holds
pub record World : Type 0 where
  pub words : List ℕ
  pub homes : List Home
  pub views : List View
  pub hands : ℕ → Home

-- the value of the word i
abbrev pub word_of : World → ℕ → ℕ
word_of w i = slice_index w.words i

-- the slot of the name
abbrev pub home_of : World → ℕ → Home
home_of w n = slice_index_or w.homes n empty

-- the actor with this number
abbrev pub actor : World → ℕ → View
actor w id = slice_index_or w.views id spent_view

-- what the words say
abbrev pub read : File → World → State
read f w = record {
  number = slice_index w.words number_word;
  right = slice_index w.words right_word;
  pins = λ g. slice_index w.words (pins_word g);
  name = λ n. slice_index w.words (name_word f n);
  home = λ n. slice_index_or w.homes n empty;
  views = w.views;
}

-- each word and slot is there
pub record Fits (f : File) (w : World) : Type 0 where
  pub wide : length w.words ≡ name_word f f.names
  pub deep : length w.homes ≡ f.names

-- the table as it is made from a file at rest, with the first actor
pub record Opens (f : File) (k : Opening) (w : World) : Type 0 where
  pub fits : Fits f w
  pub number : slice_index w.words number_word ≡ k.number
  pub right : slice_index w.words right_word ≡ word.free
  pub pins : (g : ℕ) → g < f.stages → slice_index w.words (pins_word g) ≡ closed_bit * truth (k.closed g)
  pub names : (n : ℕ) → n < f.names → slice_index w.words (name_word f n) ≡ k.name n
  pub homes : (n : ℕ) → n < f.names → slice_index_or w.homes n empty ≡ k.home n
  pub views : w.views ≡ first_view f k ∷ []

-- what a move does with the slot of a name: it stays; it comes out, into the actor's hand; it goes back
pub data Turn : Type 0 where
  stays : Turn
  comes_out : ℕ → Turn
  goes_back : ℕ → Turn

-- what a move notes in its actor's view: the step, its word and the value that it met; the step alone; nothing
pub data Note : Type 0 where
  meets : Note
  steps : Note
  silent : Note

-- a row: its word; by the value that it meets there, the word's new value, what happens to the slot, and the actor's
-- view; and what is noted of it
pub record Row : Type 0 where
  pub word : ℕ
  pub becomes : ℕ → ℕ
  pub slot : ℕ → Turn
  pub view : ℕ → View → View
  pub note : Note

-- a row that leaves the slots
abbrev pub word_row : ℕ → (ℕ → ℕ) → (ℕ → View → View) → Row
word_row i becomes view = record { word = i; becomes = becomes; slot = λ x. stays; view = view; note = meets }

-- one that takes the slot of a name which is Here
abbrev pub here_row : File → ℕ → (ℕ → View → View) → Row
here_row f n view = record {
  word = name_word f n;
  becomes = λ x. cond (is_here x) word.taken x;
  slot = λ x. cond (is_here x) (comes_out n) stays;
  view = view;
  note = meets;
}

-- one that takes the slot
abbrev pub turn_row : File → ℕ → (View → View) → Row
turn_row f n view = record {
  word = name_word f n;
  becomes = λ x. word.taken;
  slot = λ x. comes_out n;
  view = λ x. view;
  note = meets;
}

-- one that gives it back, with the name's new word
abbrev pub back_row : File → ℕ → ℕ → (View → View) → Note → Row
back_row f n x view note = record {
  word = name_word f n;
  becomes = λ y. x;
  slot = λ y. goes_back n;
  view = λ y. view;
  note = note;
}

-- a step on the word i that met x is noted
abbrev pub counted : ℕ → ℕ → View → View
counted i x v = record v { step = record { count = v.step.count + 1; word = i; met = x } }

-- what the note of a row leaves in the view
abbrev pub noted : Note → ℕ → ℕ → View → View
noted meets i x v = counted i x v
noted steps i x v = record v { step = record v.step { count = v.step.count + 1 } }
noted silent i x v = v

-- the hands, with h in this actor's
abbrev pub put : (ℕ → Home) → ℕ → Home → ℕ → Home
put hands id h j = cond (j == id) h (hands j)

-- the slots after a turn
abbrev pub homes_after : Turn → World → ℕ → List Home
homes_after stays w id = w.homes
homes_after (comes_out n) w id = slice_set w.homes n away
homes_after (goes_back n) w id = slice_set w.homes n (w.hands id)

-- the hands after it
abbrev pub hands_after : Turn → World → ℕ → ℕ → Home
hands_after stays w id = w.hands
hands_after (comes_out n) w id = put w.hands id (home_of w n)
hands_after (goes_back n) w id = put w.hands id away

-- the world after the actor made the row, which met x
abbrev pub acted : Row → ℕ → World → ℕ → World
acted r x w id = record {
  words = slice_set w.words r.word (r.becomes x);
  homes = homes_after (r.slot x) w id;
  views = slice_set w.views id (noted r.note r.word x (r.view x (actor w id)));
  hands = hands_after (r.slot x) w id;
}

-- the same, with the value that the word has
abbrev pub acts : Row → World → ℕ → World
acts r w id = acted r (word_of w r.word) w id
