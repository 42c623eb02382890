-- What a reclaim does.
use Rattle.std.specs.Prelude.{◌≡◌, ℕ, ◌+◌, ◌||◌, Bool, true, false, not, List, [], ◌∷◌, ◌++◌, length, filter}
use Rattle.std.specs.Prelude.{slice_index_or}
use Rattle.std.specs.List.{list_all, range_with_len}
use Rattle.mf_machine.specs.declared.answer.Closed.{Closed}
use Rattle.mf_machine.specs.declared.answer.Closed.TheVariants as closed
use Rattle.mf_machine.specs.declared.answer.Slot.TheVariants.{Work}
use Rattle.mf_places.specs.declared.Name.{Name}
use Rattle.mf_places.specs.Facts.{BookFacts}
use Rattle.mf_places.specs.Generations.{holds}
use Rattle.mf_places.specs.Names.{all_names}
use Rattle.mf_vault.specs.declared.answers.Pinned.TheVariants as pinned
use Rattle.mf_vault.specs.Facts.{Facts, stages}
use Rattle.mf_vault.specs.Actor.{Actor, Call, pin, unpin, close, discard}
use Rattle.mf_vault.specs.Licence.{Does}
use Rattle.mf_reclaim.specs.declared.outcome.ReclaimOutcome.{ReclaimOutcome}
use Rattle.mf_reclaim.specs.declared.outcome.ReclaimOutcome.TheVariants as outcome

-- A close of each generation in turn, from g on, with its answer.
abbrev pub closes : ℕ → List Closed → List Call
closes g [] = []
closes g (c ∷ answers) = close g c ∷ closes (g + 1) answers

-- A close that closed its generation.
abbrev pub is_done : Closed → Bool
is_done closed.Done = true
is_done (closed.Pins n) = false
is_done closed.Already = false

-- One behind which its generation is closed.
abbrev pub is_shut : Closed → Bool
is_shut closed.Done = true
is_shut (closed.Pins n) = false
is_shut closed.Already = true

-- Generation g was answered so, by closes of the generations from 0 on.
abbrev pub was_shut : List Closed → ℕ → Bool
was_shut answers g = is_shut (slice_index_or answers g (closed.Pins 0))

-- The generations from g on that were answered Pins, with their numbers.
abbrev pub pins_of : ℕ → Closed → List (ℕ × ℕ)
pins_of g closed.Done = []
pins_of g (closed.Pins n) = (g, n) ∷ []
pins_of g closed.Already = []

abbrev pub pins_from : ℕ → List Closed → List (ℕ × ℕ)
pins_from g [] = []
pins_from g (c ∷ answers) = pins_of g c ++ pins_from (g + 1) answers

-- Each generation that holds the name was answered Done or Already.
abbrev pub is_free : BookFacts → List Closed → Name → Bool
is_free b answers x = list_all (λ g. not (holds b g x) || was_shut answers g) (range_with_len 0
    (length b.shape.stages))

-- The names of which that is so, in order.
abbrev pub free_names : BookFacts → List Closed → List Name
free_names b answers = filter (is_free b answers) (all_names b)

-- A discard of each name in turn, and whether it dropped the name.
abbrev pub discards : List Name → List Bool → List Call
discards [] changed = []
discards (x ∷ xs) [] = []
discards (x ∷ xs) (b ∷ changed) = discard x b ∷ discards xs changed

-- How many did.
abbrev pub count_true : List Bool → ℕ
count_true changed = length (filter (λ b. b) changed)

-- The pin by which the published number is learnt, freed at once, and the end of the generations below it: all of
-- them
-- where the file is removed.
pub data Learns (f : Facts) : (end : ℕ) → List Call → Type 0 where
  published : (missed : List ℕ) (g : ℕ) → Learns f g (pin Work missed (pinned.At g) ∷ unpin Work ∷ [])
  removed : (missed : List ℕ) → Learns f (stages f) (pin Work missed pinned.Removed ∷ [])

-- The calls of a reclaim that ends so.
pub data IsReclaim (f : Facts) : ReclaimOutcome → List Call → Type 0 where
  no_memory : IsReclaim f outcome.Memory []
  absent : (missed : List ℕ) → IsReclaim f outcome.Absent (pin Work missed pinned.Absent ∷ [])
  reclaimed : (first : List Call) (answers : List Closed) (changed : List Bool) → Learns f (length answers) first
      → length changed ≡ length (free_names f.book answers)
      → IsReclaim f (outcome.Reclaimed (length (filter is_done answers)) (count_true changed) (pins_from 0 answers))
      (first ++ (closes 0 answers ++ discards (free_names f.book answers) changed))

-- It led from one actor to the other with this outcome.
pub record Reclaims (o : ReclaimOutcome) (a b : Actor) : Type 0 where
  pub calls : List Call
  pub licence : IsReclaim a.facts o calls
  pub does : Does calls a b
