-- What a reclaim adds to its actor's Made and Met.
use Rattle.std.proofs.Common.{◌≡◌, ℕ, ◌+◌, Bool, List, [], ◌∷◌, ◌++◌, refl, sym, ◌∙◌, subst}
use Rattle.mf_machine.specs.declared.answer.Closed.{Closed}
use Rattle.mf_machine.specs.declared.answer.Slot.TheVariants.{Work}
use Rattle.mf_machine.specs.Actors.{IsFreeSlot}
use Rattle.mf_places.specs.declared.Name.{Name}
use Rattle.mf_vault.specs.declared.answers.Pinned.TheVariants as pinned
use Rattle.mf_vault.specs.Facts.{Facts}
use Rattle.mf_vault.specs.Actor.{Actor, Call, close, discard, did}
use Rattle.mf_vault.specs.Gains.{FreeAtCloses, LeaveWork}
use Rattle.mf_vault.proofs.Engines as engine
use Rattle.mf_vault.proofs.Engines.{Profile, both}
use Rattle.mf_vault.proofs.Entering.{tried_work}
use Rattle.mf_vault.proofs.Gaining.{work_stays_free}
use Rattle.mf_reclaim.specs.declared.outcome.ReclaimOutcome.{ReclaimOutcome}
use Rattle.mf_reclaim.specs.Laws.{ReclaimsGain}
use Rattle.mf_reclaim.specs.Reclaim as licence
use Rattle.mf_reclaim.specs.Reclaim.{IsReclaim, Learns, closes, discards, free_names}

closing : (g : ℕ) (c : Closed) → Profile (close g c ∷ []) [] 0 0
closing g c = record { published = λ n. refl; begun = λ f. refl; refused = λ f. refl }

discarding : (x : Name) (b : Bool) → Profile (discard x b ∷ []) [] 0 0
discarding x b = record { published = λ n. refl; begun = λ f. refl; refused = λ f. refl }

none : Profile [] [] 0 0
none = record { published = λ n. refl; begun = λ f. refl; refused = λ f. refl }

all_closing : (g : ℕ) (answers : List Closed) → Profile (closes g answers) [] 0 0
all_closing g [] = none
all_closing g (c ∷ answers) = both (closing g c) (all_closing (g + 1) answers)

all_discarding : (xs : List Name) (changed : List Bool) → Profile (discards xs changed) [] 0 0
all_discarding [] changed = none
all_discarding (x ∷ xs) [] = none
all_discarding (x ∷ xs) (b ∷ changed) = both (discarding x b) (all_discarding xs changed)

-- the pin by which the number is learnt, and its end
learning : {f : Facts} {end : ℕ} {first : List Call} → Learns f end first → Profile first [] 0 0
learning (licence.published gs g) = both (engine.pinned gs (pinned.At g)) engine.unpinned
learning (licence.removed gs) = engine.pinned gs pinned.Removed

profile : {f : Facts} {o : ReclaimOutcome} {cs : List Call} → IsReclaim f o cs → Profile cs [] 0 0
profile licence.no_memory = none
profile (licence.absent gs) = engine.pinned gs pinned.Absent
profile {f = f} (licence.reclaimed first answers changed learns long) = both (learning learns)
    (both (all_closing 0 answers) (all_discarding (free_names f.book answers) changed))

-- ---- the Work slot at the closes

discards_leave : (xs : List Name) (changed : List Bool) → LeaveWork (discards xs changed)
discards_leave [] changed = tt
discards_leave (x ∷ xs) [] = tt
discards_leave (x ∷ xs) (b ∷ changed) = discards_leave xs changed

closes_leave : (g : ℕ) (answers : List Closed) (rest : List Call) → LeaveWork rest → LeaveWork (closes g answers ++ rest)
closes_leave g [] rest leave = leave
closes_leave g (c ∷ answers) rest leave = closes_leave (g + 1) answers rest leave

free : {f : Facts} {o : ReclaimOutcome} {cs : List Call} → IsReclaim f o cs → (a : Actor) → IsFreeSlot Work a.view
    → FreeAtCloses cs a
free licence.no_memory a work = tt
free (licence.absent gs) a work = tt
free {f = f} (licence.reclaimed first answers changed learns long) a work = by_first first learns
  where
    rest : List Call
    rest = closes 0 answers ++ discards (free_names f.book answers) changed

    leave : LeaveWork rest
    leave = closes_leave 0 answers (discards (free_names f.book answers) changed)
        (discards_leave (free_names f.book answers) changed)

    by_first : (first : List Call) {end : ℕ} → Learns f end first → FreeAtCloses (first ++ rest) a
    by_first _ (licence.published gs g) = work_stays_free rest _ refl leave
    by_first _ (licence.removed gs) = work_stays_free rest _ (tried_work a.facts gs pinned.Removed a.view ∙ work) leave

pub reclaims_gain : ReclaimsGain
reclaims_gain a b o x work = engine.engine_gains (profile x.licence) x.does (free x.licence a work)
