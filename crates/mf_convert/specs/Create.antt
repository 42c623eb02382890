-- What a create does.
use Rattle.std.specs.Prelude.{◌≡◌, ℕ, true, false, List, [], ◌∷◌, ◌++◌, length, filter}
use Rattle.mf_machine.specs.declared.answer.Slot.TheVariants.{Work}
use Rattle.mf_machine.specs.declared.answer.State.{State}
use Rattle.mf_machine.specs.declared.answer.State.TheVariants.{Unborn, Here, Lost, Away}
use Rattle.mf_places.specs.declared.Name.{Name}
use Rattle.mf_places.specs.Generations.{holds}
use Rattle.mf_places.specs.Names.{all_names}
use Rattle.mf_vault.specs.declared.answers.Pinned.TheVariants as pinned
use Rattle.mf_vault.specs.Facts.{Facts}
use Rattle.mf_vault.specs.Actor.{Actor, Call, begin, end, pin, unpin, publish, probe, put, restore}
use Rattle.mf_vault.specs.Licence.{Does}
use Rattle.mf_convert.specs.declared.change.Change.{Change}
use Rattle.mf_convert.specs.declared.change.Change.TheVariants as change

-- A probe of each name in turn, with its answer.
abbrev pub probes : List Name → List State → List Call
probes [] states = []
probes (x ∷ xs) [] = []
probes (x ∷ xs) (s ∷ ss) = probe x s ∷ probes xs ss

-- A name is put where it was answered Unborn, and restored where it was answered Lost.
abbrev pub bring : Name → State → List Call
bring x Unborn = put x ∷ []
bring x Here = []
bring x (Lost line) = restore x ∷ []
bring x (Away server) = []

-- So is each name in turn.
abbrev pub brings : List Name → List State → List Call
brings [] states = []
brings (x ∷ xs) [] = []
brings (x ∷ xs) (s ∷ ss) = bring x s ++ brings xs ss

-- The names of the first generation, in order.
abbrev pub first_names : Facts → List Name
first_names f = filter (holds f.book 0) (all_names f.book)

-- The calls of a create that ends so. Only where it created the file has it probed, put, restored or published.
pub data IsCreate (f : Facts) : Change → List Call → Type 0 where
  busy : IsCreate f change.Busy (begin false ∷ [])
  was_there : (missed : List ℕ) (g : ℕ)
      → IsCreate f change.Exists (begin true ∷ pin Work missed (pinned.At g) ∷ unpin Work ∷ end ∷ [])
  was_removed : (missed : List ℕ)
      → IsCreate f change.Exists (begin true ∷ pin Work missed pinned.Removed ∷ end ∷ [])
  no_memory : (missed : List ℕ)
      → IsCreate f change.Memory (begin true ∷ pin Work missed pinned.Absent ∷ end ∷ [])
  created : (missed : List ℕ) (states : List State) → length states ≡ length (first_names f)
      → IsCreate f change.Created
      ((begin true ∷ pin Work missed pinned.Absent ∷ []) ++ (probes (first_names f) states
      ++ (brings (first_names f) states ++ (publish 1 ∷ end ∷ []))))

-- It led from one actor to the other with this outcome.
pub record Creates (outcome : Change) (a b : Actor) : Type 0 where
  pub calls : List Call
  pub licence : IsCreate a.facts outcome calls
  pub does : Does calls a b
