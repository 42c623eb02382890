-- What a remove does.
use Rattle.std.specs.Prelude.{ℕ, ◌+◌, true, false, List, [], ◌∷◌}
use Rattle.mf_machine.specs.declared.answer.Slot.TheVariants.{Work}
use Rattle.mf_vault.specs.declared.answers.Pinned.TheVariants as pinned
use Rattle.mf_vault.specs.Facts.{Facts, stages}
use Rattle.mf_vault.specs.Actor.{Actor, Call, begin, end, pin, unpin, publish}
use Rattle.mf_vault.specs.Licence.{Does}
use Rattle.mf_convert.specs.declared.change.Change.{Change}
use Rattle.mf_convert.specs.declared.change.Change.TheVariants as change

-- The calls of a remove that ends so. The number that says so is the one behind that of the last generation.
pub data IsRemove (f : Facts) : Change → List Call → Type 0 where
  busy : IsRemove f change.Busy (begin false ∷ [])
  absent : (missed : List ℕ) → IsRemove f change.Absent (begin true ∷ pin Work missed pinned.Absent ∷ end ∷ [])
  was_removed : (missed : List ℕ)
      → IsRemove f change.Removed (begin true ∷ pin Work missed pinned.Removed ∷ end ∷ [])
  removed_now : (missed : List ℕ) (g : ℕ) → IsRemove f change.RemovedNow
      (begin true ∷ pin Work missed (pinned.At g) ∷ unpin Work ∷ publish (stages f + 1) ∷ end ∷ [])

-- It led from one actor to the other with this outcome.
pub record Removes (outcome : Change) (a b : Actor) : Type 0 where
  pub calls : List Call
  pub licence : IsRemove a.facts outcome calls
  pub does : Does calls a b
