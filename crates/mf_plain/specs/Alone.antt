-- The state of a file that one actor has alone, from what is stored and the actor's view.
use Rattle.std.specs.Prelude.{ℕ, ◌+◌, ◌*◌, ◌==◌, leb, Bool, false, List, [], ◌∷◌, ◌++◌, map, take, drop}
use Rattle.std.specs.Prelude.{Option, Some, None, if◌then◌else◌}
use Rattle.mf_machine.specs.declared.view.View.{View}
use Rattle.mf_machine.specs.Actors.{on}
use Rattle.mf_machine.specs.Counts.{truth}
use Rattle.mf_machine.specs.File.{Home}
use Rattle.mf_machine.specs.File.Home.{away, empty, keeps}
use Rattle.mf_machine.specs.Words as word
use Rattle.mf_machine.specs.Words.{number_word, closed_bit, is_lost, line_of, absent}
use Rattle.mf_machine.specs.Worlds.{World, word_of, first_view}
use Rattle.mf_places.specs.declared.losses.LoseLine.{LoseLine}
use Rattle.mf_places.specs.declared.servers.Servers.{Servers}
use Rattle.mf_places.specs.Servers.{no_servers}
use Rattle.mf_vault.specs.declared.answers.Entry.{Entry}
use Rattle.mf_vault.specs.declared.answers.Rest.{Rest}
use Rattle.mf_vault.specs.declared.answers.Rest.TheVariants as rest
use Rattle.mf_vault.specs.Facts.{Facts, file, stages, place}
use Rattle.mf_vault.specs.Actor.{Actor}
use Rattle.mf_vault.specs.Licence.{erased}
use Rattle.mf_vault.specs.Resting.{words_of, homes_of}
use Rattle.mf_plain.specs.Resting.{Resting, facts_of}

-- what is stored: the published number, the right, the slots, the closed generations and the names
pub record Stored : Type 0 where
  pub number : ℕ
  pub right : Bool
  pub hold : Option ℕ
  pub work : Option ℕ
  pub closed : List Bool
  pub names : List Rest

abbrev pub stored : ℕ → Bool → Option ℕ → Option ℕ → List Bool → List Rest → Stored
stored number right hold work closed names = record {
  number = number;
  right = right;
  hold = hold;
  work = work;
  closed = closed;
  names = names;
}

-- the words of the generations from g on: how many pins each has, and the closed bit
abbrev pub pin_words : (ℕ → ℕ) → ℕ → List Bool → List ℕ
pin_words count g [] = []
pin_words count g (b ∷ bs) = (closed_bit * truth b + count g) ∷ pin_words count (g + 1) bs

abbrev pub pins_of : Option ℕ → Option ℕ → ℕ → ℕ
pins_of hold work g = on g (place hold) (place work)

-- the whole state
abbrev pub world : Stored → View → World
world s v = record {
  words = s.number ∷ truth s.right ∷ pin_words (pins_of s.hold s.work) 0 s.closed ++ words_of s.names;
  homes = homes_of s.names;
  views = v ∷ [];
  hands = λ _. away;
}

-- the actor that it tells
abbrev pub actor_at : Facts → Stored → View → List Entry → Servers → Actor
actor_at f s v es cut = record {
  facts = f;
  view = erased v;
  entries = es;
  cut = cut;
  whole = Some (world s v);
}

-- the only actor of a file at rest, as a phase begins
abbrev pub first_stored : Resting → Stored
first_stored r = stored r.number false None None r.closed r.names

abbrev pub first_at : Facts → Stored → Actor
first_at f s = actor_at f s (first_view (file f) f.opening) [] no_servers

abbrev pub first_actor : Resting → ℕ → List LoseLine → Actor
first_actor r now losses = first_at (facts_of r now losses) (first_stored r)

-- ---- what rests of a whole state

-- a generation is closed where its word has the closed bit
abbrev pub is_closed : ℕ → Bool
is_closed x = leb closed_bit x

abbrev pub bytes_in : Home → List ℕ
bytes_in away = []
bytes_in empty = []
bytes_in (keeps c) = c

-- a name at rest, from its word and its slot
abbrev pub rest_from : ℕ → Home → Rest
rest_from x h = if x == word.unborn then rest.Unborn else (if x == word.dropped then rest.Dropped
    else (if is_lost x then rest.Lost (line_of x) else rest.Here (bytes_in h)))

abbrev pub rests_from : List ℕ → List Home → List Rest
rests_from [] hs = []
rests_from (x ∷ xs) [] = []
rests_from (x ∷ xs) (h ∷ hs) = rest_from x h ∷ rests_from xs hs

-- the file at rest that is left: its lose lines are those of the phase, and it was created in this phase if it rested
-- uncreated before
abbrev pub rested : Facts → World → Resting
rested f w = record {
  book = f.book;
  bytes = f.bytes;
  losses = f.losses;
  number = word_of w number_word;
  closed = map is_closed (take (stages f) (drop 2 w.words));
  names = rests_from (drop (stages f + 2) w.words) w.homes;
  born = (if word_of w number_word == absent then 0 else f.born);
}
