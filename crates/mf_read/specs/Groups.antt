-- Asks in groups: each answers for one piece or one parity of a stripe.
use Rattle.std.specs.Prelude.{◌≡◌, ℕ, ◌+◌, ◌-◌, ◌*◌, ◌<◌, ◌==◌, Bool, true, false, nat_lt, List, [], ◌∷◌, ◌++◌, drop}
use Rattle.std.specs.Prelude.{length}
use Rattle.std.specs.Prelude.{All, Option, Some, None, Result, Ok, Err, IfSome, is_some}
use Rattle.std.specs.declared.alloc.AllocError.{AllocError}
use Rattle.mf_machine.specs.Actors.{on}
use Rattle.mf_shape.specs.Stages.{width_at, copies_at, parities_at}
use Rattle.mf_places.specs.declared.Name.{Name}
use Rattle.mf_places.specs.declared.Name.TheVariants as name
use Rattle.mf_places.specs.Facts.{BookFacts}
use Rattle.mf_places.specs.Names.{stripes_of}
use Rattle.mf_places.specs.Generations.{pieces_of}
use Rattle.mf_decode.specs.declared.pieces.Asked.{Asked}
use Rattle.mf_decode.specs.declared.pieces.Place.{Place}
use Rattle.mf_decode.specs.declared.pieces.Place.TheVariants as place
use Rattle.mf_vault.specs.declared.answers.Answer.{Answer}
use Rattle.mf_vault.specs.declared.answers.Answer.TheVariants as answer
use Rattle.mf_vault.specs.declared.answers.Entry.{Entry}
use Rattle.mf_vault.specs.declared.answers.Entry.TheVariants as entry
use Rattle.mf_vault.specs.declared.answers.Got.{Got}
use Rattle.mf_vault.specs.declared.answers.Got.TheVariants as got
use Rattle.mf_vault.specs.declared.answers.Op.{Op}
use Rattle.mf_vault.specs.declared.answers.Op.TheVariants as op
use Rattle.mf_vault.specs.Facts.{Facts, cell_of, stages}
use Rattle.mf_vault.specs.Actor.{Actor, Call, get}
use Rattle.mf_vault.specs.Licence.{Does}
use Rattle.mf_read.specs.declared.asking.Wanting.{Wanting}
use Rattle.mf_read.specs.declared.asking.Wanting.TheVariants.{Room, Share}
use Rattle.mf_read.specs.declared.asking.Stop.{Stop}
use Rattle.mf_read.specs.Asking.{Found, Ask, here, lost, away, here_in, IsAsked, homes_of, gets}

-- an actor that may ask for stripe j of generation g: it has the generation pinned, and the stripe exists
pub record IsReader (g j : ℕ) (a : Actor) : Type 0 where
  pub stage : g < stages a.facts
  pub pinned : 0 < on g a.view.hold a.view.work
  pub stripe : j < stripes_of a.facts.book (width_at a.facts.book.shape.stages g)

-- ---- what came of asking for names

-- a get that wanted memory is a call without an entry
abbrev pub want : Wanting → List Call
want Room = []
want (Share x) = get x got.Memory ∷ []

-- the name that was next, and wanted memory
abbrev pub IsWanting : Wanting → Ask → Type 0
IsWanting Room a = Unit {0}
IsWanting (Share x) a = (a.name ≡ x) × (a.found ≡ here)

-- a chunk is these bytes
abbrev pub Asks : (names : List Name) (cell : List ℕ) → Result (Option (List ℕ)) Wanting → Actor → Actor → Type 0
Asks names cell (Ok o) a b =
    (asks : List Ask) × IsAsked 1 names asks × (is_some o ≡ nat_lt 0 (here_in asks)) × IfSome o (λ bytes. bytes ≡ cell)
    × Does (gets a.facts asks) a b
Asks names cell (Err w) a b =
    (asks : List Ask) × (next : Ask) × (rest : List Ask) × IsAsked 1 names (asks ++ next ∷ rest) × IsWanting w next
    × Does (gets a.facts asks ++ want w) a b

-- what an answer of a get comes to
abbrev pub had_of : Name → Got → Result (Option (List ℕ)) Wanting
had_of x (got.Here c) = Ok (Some c)
had_of x (got.Lost l) = Ok None
had_of x (got.Away s) = Ok None
had_of x got.Memory = Err (Share x)

-- no chunk was had, and no memory wanted
abbrev pub is_missed : Result (Option (List ℕ)) Wanting → Bool
is_missed (Ok None) = true
is_missed (Ok (Some c)) = false
is_missed (Err w) = false

-- ---- groups

-- the first chunk of stripe j
abbrev pub start_of : BookFacts → (g j : ℕ) → ℕ
start_of b g j = j * width_at b.shape.stages g

-- the names by which a place of the stripe is asked for, and the chunk that they stand for
abbrev pub names_at : BookFacts → (g j : ℕ) → Place → List Name
names_at b g j (place.Piece t) = homes_of b g (start_of b g j + t)
names_at b g j (place.Parity p) = name.Parity (width_at b.shape.stages g) j p ∷ []

abbrev pub cell_at : Facts → (g j : ℕ) → Place → List ℕ
cell_at f g j (place.Piece t) = cell_of f (name.Data (start_of f.book g j + t))
cell_at f g j (place.Parity p) = cell_of f (name.Parity (width_at f.book.shape.stages g) j p)

-- the stripe has the place
abbrev pub IsPlace : BookFacts → (g j : ℕ) → Place → Type 0
IsPlace b g j (place.Piece t) = t < pieces_of b g j
IsPlace b g j (place.Parity p) = p < parities_at b.shape.stages g

-- a place was asked for, or it stopped there
abbrev pub AsksAt : (g j : ℕ) (place : Place) → Result (Option (List ℕ)) AllocError → Option Stop → Actor → Actor
    → Type 0
AsksAt g j at (Ok o) stopped a b =
    (stopped ≡ None) × Asks (names_at a.facts.book g j at) (cell_at a.facts g j at) (Ok o) a b
AsksAt g j at (Err e) stopped a b = (w : Wanting) × (stopped ≡ Some (record { place = at; wanting = w }))
    × Asks (names_at a.facts.book g j at) (cell_at a.facts g j at) (Err w) a b

-- the asks that gave one answer
pub record Group : Type 0 where
  pub asked : Asked
  pub asks : List Ask

pub record IsGroup (b : BookFacts) (g j : ℕ) (group : Group) : Type 0 where
  pub names : IsAsked 1 (names_at b g j group.asked.place) group.asks
  pub had : group.asked.had ≡ nat_lt 0 (here_in group.asks)

abbrev pub asks_of : List Group → List Ask
asks_of [] = []
asks_of (x ∷ groups) = x.asks ++ asks_of groups

-- the calls since an asking began, by why it stopped
abbrev pub IsSince : (g j : ℕ) (start : Actor) → Option Stop → Actor → Type 0
IsSince g j start None now =
    (groups : List Group) × All (IsGroup start.facts.book g j) groups
    × Does (gets start.facts (asks_of groups)) start now
IsSince g j start (Some stop) now =
    (groups : List Group) × (asks : List Ask) × (next : Ask) × (rest : List Ask)
    × All (IsGroup start.facts.book g j) groups × IsAsked 1 (names_at start.facts.book g j stop.place)
    (asks ++ next ∷ rest)
    × IsWanting stop.wanting next × Does (gets start.facts (asks_of groups ++ asks) ++ want stop.wanting) start now

-- ---- the answers, from the entries

-- the asks that entries tell
abbrev pub answer_ask : Name → Answer → List Ask
answer_ask x answer.Here = (record { name = x; found = here }) ∷ []
answer_ask x (answer.Lost l) = (record { name = x; found = lost l }) ∷ []
answer_ask x (answer.Away s) = (record { name = x; found = away s }) ∷ []
answer_ask x answer.Unborn = []
answer_ask x answer.Done = []
answer_ask x answer.Nothing = []

abbrev pub op_ask : Op → Name → Answer → List Ask
op_ask op.Get x a = answer_ask x a
op_ask op.Probe x a = []
op_ask op.Put x a = []
op_ask op.Restore x a = []
op_ask op.Discard x a = []
op_ask op.Lose x a = []

abbrev pub entry_ask : Entry → List Ask
entry_ask (entry.Chunk o x a) = op_ask o x a
entry_ask (entry.Close g c) = []

abbrev pub asks_in : List Entry → List Ask
asks_in [] = []
asks_in (e ∷ entries) = entry_ask e ++ asks_in entries

-- the asks since an actor
abbrev pub since : (start now : Actor) → List Ask
since start now = asks_in (drop (length start.entries) now.entries)

-- the last name of its place, and the place
abbrev pub is_last : BookFacts → (g : ℕ) → Name → Bool
is_last b g (name.Data i) = copies_at b.shape.stages g == 0
is_last b g (name.Copy c i) = c + 1 == copies_at b.shape.stages g
is_last b g (name.Parity width j p) = true

abbrev pub place_of : BookFacts → (g j : ℕ) → Name → Place
place_of b g j (name.Data i) = place.Piece (i - start_of b g j)
place_of b g j (name.Copy c i) = place.Piece (i - start_of b g j)
place_of b g j (name.Parity width k p) = place.Parity p

-- an ask gives an answer where the name was Here, and where it is the last of its place
abbrev pub told_by : Place → (last : Bool) → Found → List Asked
told_by at last here = (record { place = at; had = true }) ∷ []
told_by at true (lost l) = (record { place = at; had = false }) ∷ []
told_by at false (lost l) = []
told_by at true (away s) = (record { place = at; had = false }) ∷ []
told_by at false (away s) = []

abbrev pub told : BookFacts → (g j : ℕ) → List Ask → List Asked
told b g j [] = []
told b g j (a ∷ asks) = told_by (place_of b g j a.name) (is_last b g a.name) a.found ++ told b g j asks

-- the place at which it stopped
abbrev pub stopped_at : Option Stop → Option Place
stopped_at None = None
stopped_at (Some stop) = Some stop.place
