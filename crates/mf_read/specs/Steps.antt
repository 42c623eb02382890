-- What the parts of a read come to.
use Rattle.std.specs.Prelude.{◌≡◌, ℕ, ◌+◌, ◌*◌, ◌<◌, ◌≤◌, List, [], ◌∷◌, ◌++◌, length, drop, Option, Some, None}
use Rattle.std.specs.Prelude.{Result, Ok, Err}
use Rattle.std.specs.declared.alloc.AllocError.{AllocError}
use Rattle.std.specs.declared.vec.Vec.{Vec}
use Rattle.std.specs.declared.alloc.Global.{Global}
use Rattle.mf_machine.specs.Actors.{on}
use Rattle.mf_shape.specs.Stages.{width_at}
use Rattle.mf_places.specs.declared.Name.{Name}
use Rattle.mf_vault.specs.declared.answers.Entry.{Entry}
use Rattle.mf_vault.specs.Facts.{Facts, stages}
use Rattle.mf_vault.specs.Actor.{Actor, Call}
use Rattle.mf_vault.specs.Licence.{Does}
use Rattle.mf_read.specs.declared.outcome.ReadOutcome.{ReadOutcome}
use Rattle.mf_read.specs.declared.outcome.ReadOutcome.TheVariants.{Bytes, Absent, Removed, DataLost, Unreachable}
use Rattle.mf_read.specs.declared.outcome.ReadOutcome.TheVariants.{Memory}
use Rattle.mf_read.specs.Asking.{Ask, IsServed, gets, lost_in, away_in}
use Rattle.mf_read.specs.Reading.{AreServed, IsEnd, Ends, IsReadOf, bears, stripes}
use Rattle.mf_read.specs.Groups.{asks_in}
use Rattle.mf_read.specs.declared.outcome.IntoOutcome.{IntoOutcome}
use Rattle.mf_read.specs.declared.outcome.IntoOutcome.TheVariants as into
use Rattle.mf_read.specs.Taking.{AreTaken, bytes_before, with_bytes}

-- an actor that has generation g pinned
pub record IsPinned (g : ℕ) (a : Actor) : Type 0 where
  pub stage : g < stages a.facts
  pub pinned : 0 < on g a.view.hold a.view.work

-- the first, if there is one
abbrev pub first_of : List (Name × ℕ) → Option (Name × ℕ)
first_of [] = None
first_of (x ∷ xs) = Some x

-- an entry's lost name and its line, and its name that can't be reached with the server
abbrev pub lost_name : Entry → Option (Name × ℕ)
lost_name e = first_of (lost_in (asks_in (e ∷ [])))

abbrev pub away_name : Entry → Option (Name × ℕ)
away_name e = first_of (away_in (asks_in (e ∷ [])))

-- what a short asking comes to, where so many lost names are borne
abbrev pub IsShortOf : (most g j : ℕ) (asks : List Ask) → ReadOutcome → Type 0
IsShortOf most g j asks (DataLost h k lost) = (h ≡ g) × (k ≡ j) × (lost ≡ lost_in asks) × (most < length lost)
IsShortOf most g j asks (Unreachable h k x server) =
    (h ≡ g) × (k ≡ j) × (length (lost_in asks) ≤ most) × ((others : List (Name × ℕ)) × (away_in asks ≡ (
      x,
      server,
    ) ∷ others))
IsShortOf most g j asks Memory = Unit {0}
IsShortOf most g j asks Absent = ⊥
IsShortOf most g j asks Removed = ⊥
IsShortOf most g j asks (Bytes h bytes from) = ⊥

-- the entries from number `from` on tell more names lost than generation g bears, or a name that can't be reached
abbrev pub LacksNames : (g from : ℕ) → Actor → Type 0
LacksNames g from a = let asks = asks_in (drop from a.entries) in away_in asks ≡ []
    → bears a.facts.book g < length (lost_in asks)

-- ---- the bytes

-- the bytes of stripe j
abbrev pub bytes_at : Facts → (g j : ℕ) → List ℕ
bytes_at f g j = drop (j * width_at f.book.shape.stages g * f.book.chunk) (bytes_before f g (j + 1))

-- these bytes were handed on; where memory ran out, a front of them was
abbrev pub Hands : (bytes : List ℕ) → Result Unit AllocError → (before after : List ℕ) → Type 0
Hands bytes (Ok x) before after = after ≡ before ++ bytes
Hands bytes (Err e) before after =
    (front : List ℕ) × (rest : List ℕ) × (bytes ≡ front ++ rest) × (after ≡ before ++ front)

-- the bytes of stripe j were handed on; where the read ended there, none were, or a front of them where memory ran out
abbrev pub HandsUntil : (bytes : List ℕ) → IntoOutcome → (before after : List ℕ) → Type 0
HandsUntil bytes into.Memory before after =
    (front : List ℕ) × (rest : List ℕ) × (bytes ≡ front ++ rest) × (after ≡ before ++ front)
HandsUntil bytes o before after = after ≡ before

abbrev pub HandsStripe : (bytes : List ℕ) → Result Unit IntoOutcome → (before after : List ℕ) → Type 0
HandsStripe bytes (Ok x) before after = after ≡ before ++ bytes
HandsStripe bytes (Err o) before after = HandsUntil bytes o before after

-- what an outcome tells of was handed on
abbrev pub HandsOn : Facts → IntoOutcome → (before after : List ℕ) → Type 0
HandsOn f o before after = (taken : List ℕ) × (after ≡ before ++ taken) × AreTaken f o taken

-- all bytes were, or those until the read ended
abbrev pub HandsAll : Facts → Result Unit IntoOutcome → (before after : List ℕ) → Type 0
HandsAll f (Ok x) before after = after ≡ before ++ f.bytes
HandsAll f (Err o) before after = HandsOn f o before after

-- ---- the calls

-- a stripe was read, or the read ends at it
abbrev pub ReadsStripe : (g j : ℕ) → Result Unit IntoOutcome → Actor → Actor → Type 0
ReadsStripe g j (Ok x) a b = (asks : List Ask) × IsServed a.facts.book g j asks × Does (gets a.facts asks) a b
ReadsStripe g j (Err o) a b =
    (cs : List Call) × ((bytes : Vec ℕ Global) → IsEnd a.facts g j (with_bytes o bytes) cs) × Does cs a b

-- all stripes were read, or the read ended
abbrev pub ReadsAll : (g : ℕ) → Result Unit IntoOutcome → Actor → Actor → Type 0
ReadsAll g (Ok x) a b =
    (asks : List Ask) × AreServed a.facts.book g (stripes a.facts.book g) asks × Does (gets a.facts asks) a b
ReadsAll g (Err o) a b =
    (cs : List Call) × ((bytes : Vec ℕ Global) → Ends a.facts g (with_bytes o bytes) cs) × Does cs a b

-- a generation was read
abbrev pub ReadsOf : (g : ℕ) → ReadOutcome → Actor → Actor → Type 0
ReadsOf g o a b = (cs : List Call) × IsReadOf a.facts g o cs × Does cs a b

-- the same, with the file's bytes in any vector
abbrev pub ReadsAny : (g : ℕ) → IntoOutcome → Actor → Actor → Type 0
ReadsAny g o a b =
    (cs : List Call) × ((bytes : Vec ℕ Global) → bytes.items ≡ a.facts.bytes → IsReadOf a.facts g (with_bytes o bytes) cs)
    × Does cs a b
