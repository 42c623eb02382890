-- The table of a file: its state in the words of the file machine, its rule, and what a step makes of a seat.
use Rattle.std.specs.Prelude.{◌≡◌, ℕ, zero, suc, ◌^◌, ◌<◌, List, [], ◌∷◌, Option, Some, None}
use mathlib.Core.Option.{none, some}
use mathlib.Core.Option as maybe
use lib.ListN.{get_elem?}
use Rattle.atomic_table.specs.Table.{State, Me, Allows, rest}
use Rattle.mf_machine.specs.declared.view.View.{View}
use Rattle.mf_machine.specs.File.{File, Home, name_word}
use Rattle.mf_machine.specs.File.Home.{away, empty, keeps}
use Rattle.mf_machine.specs.Words.{lost}
use Rattle.mf_machine.specs.Worlds.{World, Row, Turn, stays, comes_out, goes_back, noted, word_of, first_view}
use Rattle.mf_machine.specs.Worlds.{spent_view}
use Rattle.mf_machine.specs.Steps as row
use Rattle.mf_machine.specs.Worlds as world
use Rattle.mf_vault.specs.declared.note.Note.{Note}
use Rattle.mf_vault.specs.Facts.{Facts, file}
use Rattle.mf_vault.specs.Licence.{Holding}
use Rattle.mf_vault.specs.Resting.{opening_of}
use Rattle.mf_gate.specs.declared.known.About.{About}
use Rattle.mf_gate.specs.declared.known.Known.{Known}

-- the facts of the file. Ticks, and which table it is, are nothing to a gate
abbrev pub facts_of : About → Facts
facts_of k = record {
  book = k.book;
  bytes = k.bytes;
  losses = k.losses;
  opening = opening_of k.number k.closed k.names;
  born = 0;
  now = 0;
  table = [];
}

-- the same in the words of the file machine
abbrev pub file_of : About → File
file_of k = file (facts_of k)

-- what a slot of the table has: it is out with a seat, it is empty, or it has a chunk
abbrev pub home_of : maybe.Option (Option (List ℕ)) → Home
home_of none = away
home_of (some None) = empty
home_of (some (Some c)) = keeps c

abbrev pub homes_of : List (maybe.Option (Option (List ℕ))) → List Home
homes_of [] = []
homes_of (h ∷ hs) = home_of h ∷ homes_of hs

-- the actors of the seats
abbrev pub views_of : List Known → List View
views_of [] = []
views_of (v ∷ vs) = v.view ∷ views_of vs

-- the table in the words of the file machine
abbrev pub world_of : State (Option (List ℕ)) Known → World
world_of s = record {
  words = s.words;
  homes = homes_of s.homes;
  views = views_of s.views;
  hands = λ _. away;
}

-- the line of a lost name is a number of 32 bits
abbrev pub AreLines : File → World → Type 0
AreLines f w = (n l : ℕ) → n < f.names → word_of w (name_word f n) ≡ lost l → l < 2 ^ 32

-- the state keeps the file machine's rule
pub record Kept (k : About) (w : World) : Type 0 where
  pub holding : Holding (facts_of k) w
  pub lines : AreLines (file_of k) w

-- the table's rule
abbrev pub Rule : About → State (Option (List ℕ)) Known → Type 0
Rule k s = Kept k (world_of s)

abbrev pub Keeps : Note About → State (Option (List ℕ)) Known → Type 0
Keeps k s = Rule k.value s

-- the first seat
abbrev pub first : Note About → Known
first k = record { about = k.value; view = first_view (file_of k.value) (facts_of k.value).opening }

-- a seat: what it knows, and the slots that it carries
abbrev pub Mine : Type 0
Mine = Me (Option (List ℕ)) Known

-- what a seat carries between two calls: the emptied slot of the name that it is getting
abbrev pub bare : ℕ → List (ℕ × Option (List ℕ))
bare zero = []
bare (suc n) = (n, None) ∷ []

-- what becomes of the slots that a seat carries: they stay; a further one comes out, with what it had; the last one
-- goes back
abbrev pub Carries : World → Turn → List (ℕ × Option (List ℕ)) → List (ℕ × Option (List ℕ)) → Type 0
Carries w stays c c' = c' ≡ c
Carries w (comes_out n) c c' = (y : Option (List ℕ)) × (c' ≡ (n, y) ∷ c) × (world.home_of w n ≡ home_of (some y))
Carries w (goes_back n) c c' = c' ≡ rest c

-- x is what the word i had in a state that kept the rule, and in which some actor had this view
pub record Met (k : About) (v : View) (i x : ℕ) : Type 0 where
  pub state : World
  pub kept : Kept k state
  pub id : ℕ
  pub at : get_elem? state.views id ≡ some v
  pub word : word_of state i ≡ x

-- the view after a row that met x
abbrev pub after : Row → ℕ → View → View
after r x v = noted r.note r.word x (r.view x v)

-- the seat made the row, and met x
pub record Makes (r : Row) (x : ℕ) (me me' : Mine) : Type 0 where
  pub view : me'.0 ≡ record me.0 { view = after r x me.0.view }
  pub met : Met me.0.about me.0.view r.word x
  pub slots : Carries met.state (r.slot x) me.1 me'.1

-- the seat may make the row, where the word i becomes h of what it was
abbrev pub Takes : About → Row → (slots id : ℕ) → Mine → ℕ → (ℕ → ℕ) → Type 0
Takes k r slots id me i h = Allows (Rule k) slots id me i h (λ x me'. Makes r x me me')

-- a seat is cut in two, and a seat takes in another
abbrev pub old_half : Known → Known
old_half v = record v { view = row.old_half v.view }

abbrev pub new_half : Known → Known
new_half v = record v { view = row.new_half v.view }

abbrev pub joined : Known → Known → Known
joined v w = record v { view = row.joined v.view w.view }

-- a file of nothing
abbrev pub nothing : About
nothing = record {
  book = record { shape = record { stages = []; servers = 0 }; points = []; chunk = 0; file = 0; bytes = 0 };
  bytes = [];
  losses = [];
  number = 0;
  closed = [];
  names = [];
}

-- a seat that another took in
abbrev pub spent : Known
spent = record { about = nothing; view = spent_view }
