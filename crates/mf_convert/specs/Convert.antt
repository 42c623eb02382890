-- What a conversion does.
use Rattle.std.specs.Prelude.{◌≡◌, ℕ, ◌+◌, ◌/◌, ◌<◌, ◌≤◌, true, false, List, [], ◌∷◌, ◌++◌, length, map, filter}
use Rattle.std.specs.Prelude.{Option, Some, IfSome}
use Rattle.mf_code.specs.Stripes.{narrow_stripes}
use Rattle.mf_machine.specs.declared.answer.Slot.TheVariants.{Work}
use Rattle.mf_machine.specs.declared.answer.State.{State}
use Rattle.mf_machine.specs.declared.answer.State.TheVariants.{Unborn, Here, Lost, Away}
use Rattle.mf_shape.specs.Stages.{width_at}
use Rattle.mf_places.specs.declared.Name.{Name}
use Rattle.mf_places.specs.declared.Name.TheVariants as name
use Rattle.mf_places.specs.Facts.{BookFacts}
use Rattle.mf_places.specs.Generations.{holds}
use Rattle.mf_places.specs.Names.{all_names}
use Rattle.mf_vault.specs.declared.answers.Entry.{Entry}
use Rattle.mf_vault.specs.declared.answers.Got.{Got}
use Rattle.mf_vault.specs.declared.answers.Got.TheVariants as got
use Rattle.mf_vault.specs.declared.answers.Pinned.TheVariants as pinned
use Rattle.mf_vault.specs.Facts.{Facts, cell_of}
use Rattle.mf_vault.specs.Actor.{Actor, Call, begin, end, pin, unpin, publish, probe, put, restore, get}
use Rattle.mf_vault.specs.Counting.{io_of}
use Rattle.mf_vault.specs.Licence.{Does, entries_of}
use Rattle.mf_convert.specs.declared.change.Change.{Change}
use Rattle.mf_convert.specs.declared.change.Change.TheVariants as change
use Rattle.mf_convert.specs.Create.{probes}

-- The names of generation t, in order.
abbrev pub names_of : Facts → ℕ → List Name
names_of f t = filter (holds f.book t) (all_names f.book)

-- How many stripes of generation g one of the next takes in.
abbrev pub factor_at : BookFacts → ℕ → ℕ
factor_at b g = width_at b.shape.stages (g + 1) / width_at b.shape.stages g

-- What parity p of stripe j of the next generation is made of: the parity of the same point of each stripe of
-- generation g that this stripe takes in, as far as the file has these. All of them are parities.
abbrev pub sources : BookFacts → (g j p : ℕ) → List Name
sources b g j p = map (λ i. name.Parity (width_at b.shape.stages g) i p)
    (narrow_stripes b.chunk b.bytes (width_at b.shape.stages g) (factor_at b g) j)

-- A get of each name, answered with its cell.
abbrev pub gets : Facts → List Name → List Call
gets f [] = []
gets f (x ∷ xs) = get x (got.Here (cell_of f x)) ∷ gets f xs

-- A parity that was answered Unborn or Lost is made: what it is made of is got, and it is put or restored.
abbrev pub make : Facts → (g : ℕ) → Name → State → List Call
make f g (name.Data i) s = []
make f g (name.Copy c i) s = []
make f g (name.Parity width j p) Unborn = gets f (sources f.book g j p) ++ put (name.Parity width j p) ∷ []
make f g (name.Parity width j p) Here = []
make f g (name.Parity width j p) (Lost line) = gets f (sources f.book g j p) ++ restore (name.Parity width j p) ∷ []
make f g (name.Parity width j p) (Away server) = []

-- So is each in turn.
abbrev pub makes : Facts → (g : ℕ) → List Name → List State → List Call
makes f g [] states = []
makes f g (x ∷ xs) [] = []
makes f g (x ∷ xs) (s ∷ ss) = make f g x s ++ makes f g xs ss

-- These answers let a conversion from g go on: no name is Away, and one that is Unborn or Lost isn't held by g.
abbrev pub GoesOn : BookFacts → (g : ℕ) → Name → State → Type 0
GoesOn b g x Unborn = holds b g x ≡ false
GoesOn b g x Here = Unit {0}
GoesOn b g x (Lost line) = holds b g x ≡ false
GoesOn b g x (Away server) = ⊥

-- So does the answer for each name.
abbrev pub AllGoOn : BookFacts → (g : ℕ) → List Name → List State → Type 0
AllGoOn b g [] [] = Unit {0}
AllGoOn b g [] (s ∷ ss) = ⊥
AllGoOn b g (x ∷ xs) [] = ⊥
AllGoOn b g (x ∷ xs) (s ∷ ss) = GoesOn b g x s × AllGoOn b g xs ss

-- The chunk operations of a conversion from g, where its probes are answered so and all gets Here: each name of the
-- next generation is probed, and then each parity that isn't there is made. No data and no copy is got.
abbrev pub whole : Facts → (g : ℕ) → List State → List Call
whole f g states = probes (names_of f (g + 1)) states ++ makes f g (names_of f (g + 1)) states

-- Of the operations that were due these were done, and then the conversion from g ended so: after so many as it was
-- allowed, with another due; at a name that is Away; at a probe answered Lost of a name that g holds, or a get answered
-- Lost; or for want of memory.
pub data IsCut (f : Facts) (g : ℕ) : (due : List Call) → Change → (done : List Call) → Type 0 where
  stopped : (c : Call) (due : List Call) (made : ℕ) → IsCut f g (c ∷ due) (change.Stopped g (g + 1) made) []
  away_probed : (x : Name) (s : State) (due : List Call) (server : ℕ)
      → IsCut f g (probe x s ∷ due) (change.Unreachable x server) (probe x (Away server) ∷ [])
  away_got : (x : Name) (o : Got) (due : List Call) (server : ℕ)
      → IsCut f g (get x o ∷ due) (change.Unreachable x server) (get x (got.Away server) ∷ [])
  lost_probed : (x : Name) (s : State) (due : List Call) (line : ℕ) → holds f.book g x ≡ true
      → IsCut f g (probe x s ∷ due) (change.Needs x line) (probe x (Lost line) ∷ [])
  lost_got : (x : Name) (o : Got) (due : List Call) (line : ℕ)
      → IsCut f g (get x o ∷ due) (change.Needs x line) (get x (got.Lost line) ∷ [])
  no_memory : (due : List Call) → IsCut f g due change.Memory []
  not_shared : (x : Name) (o : Got) (due : List Call)
      → IsCut f g (get x o ∷ due) change.Memory (get x got.Memory ∷ [])
  -- one operation more was done before
  later : (c : Call) (due : List Call) (o : Change) (done : List Call) → IsCut f g due o done
      → IsCut f g (c ∷ due) o (c ∷ done)

-- A conversion from g is Converted where all was done, and the next generation is then published; or it was cut.
pub data IsConversion (f : Facts) (g : ℕ) : Change → List Call → Type 0 where
  converted : (states : List State) (made : ℕ) → AllGoOn f.book g (names_of f (g + 1)) states
      → IsConversion f g (change.Converted g (g + 1) made) (whole f g states ++ publish (g + 2) ∷ [])
  cut : (states : List State) (o : Change) (done : List Call) → AllGoOn f.book g (names_of f (g + 1)) states
      → IsCut f g (whole f g states) o done → IsConversion f g o done

-- The calls of a convert that ends so. Only behind a pin on a generation below `upto` are there chunk operations.
pub data IsConvert (f : Facts) (upto : ℕ) : Change → List Call → Type 0 where
  busy : IsConvert f upto change.Busy (begin false ∷ [])
  absent : (missed : List ℕ)
      → IsConvert f upto change.Absent (begin true ∷ pin Work missed pinned.Absent ∷ end ∷ [])
  was_removed : (missed : List ℕ)
      → IsConvert f upto change.Removed (begin true ∷ pin Work missed pinned.Removed ∷ end ∷ [])
  last : (missed : List ℕ) (g : ℕ) → upto ≤ g
      → IsConvert f upto (change.Last g) (begin true ∷ pin Work missed (pinned.At g) ∷ unpin Work ∷ end ∷ [])
  converting : (missed : List ℕ) (g : ℕ) (o : Change) (done : List Call) → g < upto → IsConversion f g o done
      → IsConvert f upto o (begin true ∷ pin Work missed (pinned.At g) ∷ (done ++ unpin Work ∷ end ∷ []))

-- What the entries of a convert say of its outcome: `made` is how many puts and restores they have. Where it stops
-- after
-- so many entries, it is Stopped with just so many, and has no more with any other outcome.
abbrev pub IsCounted : (stop : Option ℕ) → List Entry → Change → Type 0
IsCounted stop entries (change.Converted from to made) =
    (made ≡ (io_of entries).writes) × IfSome stop (λ most. length entries ≤ most)
IsCounted stop entries (change.Stopped from to made) =
    (made ≡ (io_of entries).writes) × (stop ≡ Some (length entries))
IsCounted stop entries o = IfSome stop (λ most. length entries ≤ most)

-- It led from one actor to the other with this outcome.
pub record Converts (upto : ℕ) (stop : Option ℕ) (outcome : Change) (a b : Actor) : Type 0 where
  pub calls : List Call
  pub licence : IsConvert a.facts upto outcome calls
  pub counted : IsCounted stop (entries_of calls) outcome
  pub does : Does calls a b
