-- What a conversion knows on its way.
use Rattle.std.specs.Prelude.{◌≡◌, ◌⊎◌, ℕ, ◌+◌, ◌-◌, ◌<◌, ◌≤◌, Bool, true, false, List, [], length, drop}
use Rattle.std.specs.Prelude.{slice_index_or}
use Rattle.std.specs.Prelude.{Option, Some, IfSome, map}
use Rattle.std.specs.List.{range_with_len}
use Rattle.mf_code.specs.Stripes.{narrow_stripes}
use Rattle.mf_machine.specs.declared.answer.State.{State}
use Rattle.mf_machine.specs.declared.answer.State.TheVariants.{Unborn, Here, Lost, Away}
use Rattle.mf_machine.specs.Actors.{Among}
use Rattle.mf_shape.specs.Stages.{width_at, parities_at}
use Rattle.mf_places.specs.declared.Name.{Name}
use Rattle.mf_places.specs.declared.Name.TheVariants as name
use Rattle.mf_places.specs.Facts.{BookFacts}
use Rattle.mf_places.specs.Generations.{holds}
use Rattle.mf_places.specs.Names.{stripes_of}
use Rattle.mf_vault.specs.declared.answers.Entry.{Entry}
use Rattle.mf_vault.specs.Facts.{number, stages}
use Rattle.mf_vault.specs.Actor.{Actor, Call}
use Rattle.mf_vault.specs.Answers.{IsReached}
use Rattle.mf_vault.specs.Counting.{io_of}
use Rattle.mf_vault.specs.Licence.{Does, IsBuilding, entries_of}
use Rattle.mf_convert.specs.declared.change.Change.{Change}
use Rattle.mf_convert.specs.declared.change.Change.TheVariants as change
use Rattle.mf_convert.specs.declared.course.Course.{Course}
use Rattle.mf_convert.specs.Create.{probes}
use Rattle.mf_convert.specs.Convert.{IsCut, IsConversion, IsCounted, AllGoOn, whole, names_of, factor_at}

-- The entries since a conversion began.
abbrev pub since : Course → Actor → List Entry
since c a = drop c.start a.entries

-- There are no more of them than are allowed.
pub record IsInTime (c : Course) (a : Actor) : Type 0 where
  pub begun : c.start ≤ length a.entries
  pub within : IfSome c.stop (λ most. length (since c a) ≤ most)

-- One more is allowed.
pub record MayGoOn (c : Course) (a : Actor) : Type 0 where
  pub begun : c.start ≤ length a.entries
  pub below : IfSome c.stop (λ most. length (since c a) < most)

-- No more is allowed, and this is the outcome where another is due.
pub record IsStopped (c : Course) (a : Actor) (o : Change) : Type 0 where
  pub outcome : o ≡ change.Stopped c.from (c.from + 1) (io_of (since c a)).writes
  pub full : c.stop ≡ Some (length (since c a))

-- The actor has the right, generation g is published and pinned by its Work slot, and there is a next one.
pub record IsConverter (g : ℕ) (a : Actor) : Type 0 where
  pub building : IsBuilding a (g + 1)
  pub work : a.view.work ≡ g + 1
  pub low : g + 1 < stages a.facts

-- Of the operations that were due some were done, and then the conversion was cut.
pub record Cuts (c : Course) (due : List Call) (o : Change) (a b : Actor) : Type 0 where
  pub done : List Call
  pub cut : IsCut a.facts c.from due o done
  pub does : Does done a b
  pub counted : IsCounted c.stop (since c b) o

-- All of them were done.
pub record Completes (c : Course) (due : List Call) (a b : Actor) : Type 0 where
  pub does : Does due a b
  pub time : IsInTime c b

-- Parity p of n stripes of a width, from stripe `first` on.
abbrev pub row_of : (width p first n : ℕ) → List Name
row_of width p first n = map (λ i. name.Parity width i p) (range_with_len first n)

-- The next generation has parity p of stripe j.
pub record IsNextParity (b : BookFacts) (g j p : ℕ) : Type 0 where
  pub stripe : j < stripes_of b (width_at b.shape.stages (g + 1))
  pub point : p < parities_at b.shape.stages (g + 1)

-- Stripe j of the next generation takes in the stripes of generation g from `first` up to `end`.
pub record TakesIn (b : BookFacts) (g j first end : ℕ) : Type 0 where
  pub stripes : range_with_len first (end - first)
      ≡ narrow_stripes b.chunk b.bytes (width_at b.shape.stages g) (factor_at b g) j
  pub some : first < end
  pub most : end ≤ first + factor_at b g
  pub there : end ≤ stripes_of b (width_at b.shape.stages g)

-- The name isn't there, by the answer of its probe.
abbrev pub is_missing : State → Bool
is_missing Unborn = true
is_missing Here = false
is_missing (Lost line) = true
is_missing (Away server) = false

-- What the answer of a probe left in the actor's view.
abbrev pub IsFound : (g : ℕ) → Actor → Name → State → Type 0
IsFound g a x Unborn = (holds a.facts.book g x ≡ false) × Among (number a.facts x) a.view.build.unborn × IsReached a x
IsFound g a x Here = Among (number a.facts x) a.view.build.settled
IsFound g a x (Lost line) = (holds a.facts.book g x ≡ false) × Among (number a.facts x) a.view.build.lost
    × Among (number a.facts x) a.view.build.settled × IsReached a x
IsFound g a x (Away server) = ⊥

-- So for each name from place k on.
abbrev pub AreFound : (g : ℕ) → Actor → ℕ → List Name → List State → Type 0
AreFound g a k names states = (i : ℕ) (x : Name) (s : State) → k ≤ i → i < length states
    → IsFound g a (slice_index_or names i x) (slice_index_or states i s)

-- Each name is put, restored, or was answered Here or Lost.
abbrev pub AreDone : Actor → List Name → Type 0
AreDone a names = (i : ℕ) (x : Name) → i < length names
    → Among (number a.facts (slice_index_or names i x)) a.view.build.settled

-- What the probes were answered, where they let the conversion go on, and all that was due.
pub record CutsProbes (c : Course) (names : List Name) (o : Change) (a b : Actor) : Type 0 where
  pub states : List State
  pub on : AllGoOn a.facts.book c.from names states
  pub cuts : Cuts c (probes names states) o a b

pub record CutsAll (c : Course) (o : Change) (a b : Actor) : Type 0 where
  pub states : List State
  pub on : AllGoOn a.facts.book c.from (names_of a.facts (c.from + 1)) states
  pub cuts : Cuts c (whole a.facts c.from states) o a b

pub record CompletesAll (c : Course) (a b : Actor) : Type 0 where
  pub states : List State
  pub on : AllGoOn a.facts.book c.from (names_of a.facts (c.from + 1)) states
  pub completes : Completes c (whole a.facts c.from states) a b
  pub done : AreDone b (names_of b.facts (c.from + 1))

-- A conversion from g led from one actor to the other.
pub record ConvertsFrom (g : ℕ) (stop : Option ℕ) (o : Change) (a b : Actor) : Type 0 where
  pub calls : List Call
  pub conversion : IsConversion a.facts g o calls
  pub counted : IsCounted stop (entries_of calls) o
  pub does : Does calls a b

-- So did one that isn't wanted where g is `upto` or a later one: it does nothing then.
pub record ConvertsPinned (g upto : ℕ) (stop : Option ℕ) (o : Change) (a b : Actor) : Type 0 where
  pub calls : List Call
  pub conversion : ((g < upto) × IsConversion a.facts g o calls) ⊎ ((upto ≤ g) × (o ≡ change.Last g) × (calls ≡ []))
  pub counted : IsCounted stop (entries_of calls) o
  pub does : Does calls a b
