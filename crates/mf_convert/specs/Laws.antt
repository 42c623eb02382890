-- What follows of a create, a convert and a remove.
use Rattle.std.specs.Prelude.{◌≡◌, ◌≢◌, ℕ, ◌+◌, List, [], ◌∷◌, ◌++◌, Option, Some}
use Rattle.mf_machine.specs.Worlds.{World}
use Rattle.mf_places.specs.declared.Name.{Name}
use Rattle.mf_places.specs.declared.Name.TheVariants as name
use Rattle.mf_vault.specs.declared.answers.Entry.{Entry}
use Rattle.mf_vault.specs.declared.answers.Entry.TheVariants as entry
use Rattle.mf_vault.specs.declared.answers.Op.TheVariants as op
use Rattle.mf_vault.specs.Actor.{Actor, Call}
use Rattle.mf_vault.specs.Actor as call
use Rattle.mf_vault.specs.Counting.{io_of}
use Rattle.mf_vault.specs.Facts.{Facts, stages}
use Rattle.mf_vault.specs.Gains.{EngineGains}
use Rattle.mf_convert.specs.declared.change.Change.{Change}
use Rattle.mf_convert.specs.declared.change.Change.TheVariants as change
use Rattle.mf_convert.specs.Create.{Creates}
use Rattle.mf_convert.specs.Remove.{Removes}
use Rattle.mf_convert.specs.Convert.{Converts}

-- Where the whole state is told, a create that had its memory has one outcome, and leaves one actor.
abbrev pub CreatesOnce : Type 0
CreatesOnce = (a b c : Actor) (w : World) (o p : Change) → a.whole ≡ Some w → Creates o a b → Creates p a c
    → o ≢ change.Memory → p ≢ change.Memory → (o ≡ p) × (b ≡ c)

-- So does a remove.
abbrev pub RemovesOnce : Type 0
RemovesOnce = (a b c : Actor) (w : World) (o p : Change) → a.whole ≡ Some w → Removes o a b → Removes p a c
    → (o ≡ p) × (b ≡ c)

-- So does a convert that had its memory.
abbrev pub ConvertsOnce : Type 0
ConvertsOnce = (a b c : Actor) (w : World) (upto : ℕ) (stop : Option ℕ) (o p : Change) → a.whole ≡ Some w
    → Converts upto stop o a b → Converts upto stop p a c → o ≢ change.Memory → p ≢ change.Memory → (o ≡ p) × (b ≡ c)

-- The name is that of a parity.
abbrev pub IsParity : Name → Type 0
IsParity (name.Data i) = ⊥
IsParity (name.Copy c i) = ⊥
IsParity (name.Parity width j p) = Unit {0}

-- The call is no get of data or of a copy, whatever it is answered.
abbrev pub GetsNoData : Call → Type 0
GetsNoData (call.get x o) = IsParity x
GetsNoData c = Unit {0}

-- So it is with each of these calls.
abbrev pub AllGetNoData : List Call → Type 0
AllGetNoData [] = Unit {0}
AllGetNoData (c ∷ calls) = GetsNoData c × AllGetNoData calls

-- The entry is of no get of data or of a copy, whatever it was answered.
abbrev pub TellsNoData : Entry → Type 0
TellsNoData (entry.Chunk op.Get x a) = IsParity x
TellsNoData e = Unit {0}

-- So it is with each of these entries.
abbrev pub AllTellNoData : List Entry → Type 0
AllTellNoData [] = Unit {0}
AllTellNoData (e ∷ entries) = TellsNoData e × AllTellNoData entries

-- A convert makes no get of data or of a copy, whatever the answer, and its entries tell of none; so its counts of both
-- are zero.
abbrev pub ReadsNoData : Type 0
ReadsNoData = (a b : Actor) (upto : ℕ) (stop : Option ℕ) (o : Change) → (x : Converts upto stop o a b)
    → AllGetNoData x.calls × ((entries : List Entry) × (b.entries ≡ a.entries ++ entries) × AllTellNoData entries
    × ((io_of entries).pieces ≡ 0) × ((io_of entries).copies ≡ 0))

-- The number that a change publishes: 1 where it created the file, that of the generation converted to, or the one that
-- says that the file is removed.
abbrev pub published_by : Facts → Change → List ℕ
published_by f change.Created = 1 ∷ []
published_by f (change.Converted from to made) = (to + 1) ∷ []
published_by f change.RemovedNow = (stages f + 1) ∷ []
published_by f o = []

-- How often a change that ends so has taken the right, and was refused it.
abbrev pub rights_of : Change → ℕ
rights_of change.Busy = 0
rights_of o = 1

abbrev pub refusals_of : Change → ℕ
refusals_of change.Busy = 1
refusals_of o = 0

-- A change publishes just its outcome's number and closes nothing, and takes the right once, or was refused it where it
-- is Busy; beside that Made and Met grow by its entries and its pin.
abbrev pub Gains : (a b : Actor) → Change → List Call → Type 0
Gains a b o calls = EngineGains calls (published_by a.facts o) (rights_of o) (refusals_of o) a b

pub record ChangesGain : Type 0 where
  pub create : (a b : Actor) (o : Change) → (x : Creates o a b) → Gains a b o x.calls
  pub convert : (a b : Actor) (upto : ℕ) (stop : Option ℕ) (o : Change) → (x : Converts upto stop o a b)
      → Gains a b o x.calls
  pub remove : (a b : Actor) (o : Change) → (x : Removes o a b) → Gains a b o x.calls
