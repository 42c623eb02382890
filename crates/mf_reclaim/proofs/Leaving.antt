-- How a reclaim leaves an actor.
use Rattle.std.proofs.Common.{ℕ, ◌+◌, Bool, List, [], ◌∷◌, ◌++◌, refl, sym, ◌∙◌, subst}
use Rattle.mf_machine.specs.declared.answer.Closed.{Closed}
use Rattle.mf_machine.specs.declared.answer.Slot.TheVariants.{Work}
use Rattle.mf_places.specs.declared.Name.{Name}
use Rattle.mf_vault.specs.declared.answers.Pinned.TheVariants as pinned
use Rattle.mf_vault.specs.Facts.{Facts}
use Rattle.mf_vault.specs.Actor.{Actor, Call}
use Rattle.mf_vault.specs.Conditions.{IsIdle, Leaves}
use Rattle.mf_vault.specs.Licence.{did_all}
use Rattle.mf_vault.proofs.Entering.{tried_right, tried_hold}
use Rattle.mf_vault.proofs.Leaving.{Stays, AreQuiet, quiet_all, quiet_append, did_both, unpinned_leaves}
use Rattle.mf_reclaim.specs.declared.outcome.ReclaimOutcome.{ReclaimOutcome}
use Rattle.mf_reclaim.specs.Reclaim as reclaim
use Rattle.mf_reclaim.specs.Reclaim.{closes, discards, free_names, Learns, IsReclaim, Reclaims}

quiet_closes : (g : ℕ) (answers : List Closed) → AreQuiet (closes g answers)
quiet_closes g [] = tt
quiet_closes g (c ∷ answers) = (tt, quiet_closes (g + 1) answers)

quiet_discards : (xs : List Name) (changed : List Bool) → AreQuiet (discards xs changed)
quiet_discards [] changed = tt
quiet_discards (x ∷ xs) [] = tt
quiet_discards (x ∷ xs) (b ∷ changed) = (tt, quiet_discards xs changed)

-- the actor that has learnt the number is as before
stays_leaves : {a b c : Actor} → Leaves a b → Stays b c → Leaves a c
stays_leaves x s = record {
  idle = record { right = s.right ∙ x.idle.right; work = s.work ∙ x.idle.work };
  facts = s.facts ∙ x.facts;
  hold = s.hold ∙ x.hold;
  cut = s.cut ∙ x.cut;
}

learns_leaves : {f : Facts} {n : ℕ} {first : List Call} → Learns f n first → (a : Actor) → IsIdle a
    → Leaves a (did_all first a)
learns_leaves (reclaim.published gs g) a idle = record {
  idle = record { right = tried_right a.facts Work gs (pinned.At g) a.view ∙ idle.right; work = refl };
  facts = refl;
  hold = tried_hold a.facts gs (pinned.At g) a.view;
  cut = refl;
}
learns_leaves (reclaim.removed gs) a idle = unpinned_leaves gs pinned.Removed _ a idle refl refl

reclaim_leaves : {f : Facts} {o : ReclaimOutcome} {cs : List Call} → IsReclaim f o cs → (a : Actor) → IsIdle a
    → Leaves a (did_all cs a)
reclaim_leaves reclaim.no_memory a idle = record { idle = idle; facts = refl; hold = refl; cut = refl }
reclaim_leaves (reclaim.absent gs) a idle = unpinned_leaves gs pinned.Absent _ a idle refl refl
reclaim_leaves {f = f} (reclaim.reclaimed first answers changed learns long) a idle =
    let names = free_names f.book answers in
    let rest = closes 0 answers ++ discards names changed in
    subst (Leaves a) (sym (did_both first rest a)) (stays_leaves (learns_leaves learns a idle)
    (quiet_all rest (did_all first a) (quiet_append (closes 0 answers) (discards names changed)
    (quiet_closes 0 answers) (quiet_discards names changed))))

pub reclaims_leaves : {o : ReclaimOutcome} {a b : Actor} → Reclaims o a b → IsIdle a → Leaves a b
reclaims_leaves {a = a} x idle = subst (Leaves a) (sym x.does.becomes) (reclaim_leaves x.licence a idle)
