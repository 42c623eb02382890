-- How a repair leaves an actor.
use Rattle.std.proofs.Common.{ℕ, zero, suc, List, [], ◌∷◌, ◌++◌, refl, sym, subst, take}
use Rattle.mf_machine.specs.declared.answer.State.{State}
use Rattle.mf_places.specs.declared.Name.{Name}
use Rattle.mf_places.specs.Generations.{stripe_names}
use Rattle.mf_vault.specs.declared.answers.Pinned.TheVariants as pinned
use Rattle.mf_vault.specs.Facts.{Facts}
use Rattle.mf_vault.specs.Actor.{Actor, Call}
use Rattle.mf_vault.specs.Conditions.{IsIdle, Leaves}
use Rattle.mf_vault.specs.Licence.{did_all}
use Rattle.mf_vault.proofs.Leaving.{AreOps, ops_then, ops_quiet, worked, turned, refused}
use Rattle.mf_read.specs.Asking.{gets}
use Rattle.mf_read.proofs.Leaving.{gets_ops, cut_ops}
use Rattle.mf_repair.specs.declared.outcome.RepairOutcome.{RepairOutcome}
use Rattle.mf_repair.specs.Repair as repair
use Rattle.mf_repair.specs.Repair.{probes, restores, lost_names, IsMended, AreMended, IsShortMend, IsCutMend, IsEnd}
use Rattle.mf_repair.specs.Repair.{IsRepairOf, IsRepair, Repairs}

probes_ops : (xs : List Name) (ss : List State) → AreOps (probes xs ss)
probes_ops [] ss = tt
probes_ops (x ∷ xs) [] = tt
probes_ops (x ∷ xs) (s ∷ ss) = (tt, probes_ops xs ss)

restores_ops : (xs : List Name) → AreOps (restores xs)
restores_ops [] = tt
restores_ops (x ∷ xs) = (tt, restores_ops xs)

behind_ops : (xs : List Name) (ss : List State) (cs : List Call) → AreOps cs → AreOps (probes xs ss ++ cs)
behind_ops xs ss cs q = ops_then (probes xs ss) cs (probes_ops xs ss) q

mended_ops : {f : Facts} {g j : ℕ} {cs : List Call} → IsMended f g j cs → AreOps cs
mended_ops {f = f} {g = g} {j = j} (repair.whole states long none) = probes_ops (stripe_names f.book g j) states
mended_ops {f = f} {g = g} {j = j} (repair.mended states asks long some served) =
    let xs = stripe_names f.book g j in
    behind_ops xs states (gets f asks ++ restores (lost_names xs states))
    (ops_then (gets f asks) (restores (lost_names xs states)) (gets_ops f asks)
    (restores_ops (lost_names xs states)))

all_mended_ops : (f : Facts) (g n : ℕ) (cs : List Call) → AreMended f g n cs → AreOps cs
all_mended_ops f g zero cs is = subst AreOps (sym is) tt
all_mended_ops f g (suc n) cs (front, last, before, one, is) = subst AreOps (sym is)
    (ops_then front last (all_mended_ops f g n front before) (mended_ops one))

short_ops : {f : Facts} {g j : ℕ} {cs : List Call} → IsShortMend f g j cs → AreOps cs
short_ops {f = f} {g = g} {j = j} x = subst AreOps (sym x.order)
    (behind_ops (stripe_names f.book g j) x.states (gets f x.asks) (gets_ops f x.asks))

cut_mend_ops : {f : Facts} {g j : ℕ} {cs : List Call} → IsCutMend f g j cs → AreOps cs
cut_mend_ops {f = f} {g = g} {j = j} (repair.in_probes states long) = probes_ops (stripe_names f.book g j) states
cut_mend_ops {f = f} {g = g} {j = j} (repair.in_gets states cut long some (asks, rest, is, either)) =
    behind_ops (stripe_names f.book g j) states cut (cut_ops f asks rest cut either)
cut_mend_ops {f = f} {g = g} {j = j} (repair.in_restores states asks n long some served) =
    let xs = stripe_names f.book g j in
    let names = take n (lost_names xs states) in
    behind_ops xs states (gets f asks ++ restores names)
    (ops_then (gets f asks) (restores names) (gets_ops f asks) (restores_ops names))

end_ops : {f : Facts} {g j : ℕ} {o : RepairOutcome} {cs : List Call} → IsEnd f g j o cs → AreOps cs
end_ops (repair.data_lost calls short more) = short_ops short
end_ops (repair.unreachable calls x server others short low is) = short_ops short
end_ops (repair.no_memory calls cut) = cut_mend_ops cut

pub repair_ops : {f : Facts} {g : ℕ} {o : RepairOutcome} {cs : List Call} → IsRepairOf f g o cs → AreOps cs
repair_ops {f = f} {g = g} (repair.repaired calls are) = all_mended_ops f g _ calls are
repair_ops {f = f} {g = g} (repair.ended o j front last low are ends) =
    ops_then front last (all_mended_ops f g j front are) (end_ops ends)

repair_leaves : {f : Facts} {o : RepairOutcome} {cs : List Call} → IsRepair f o cs → (a : Actor) → IsIdle a
    → Leaves a (did_all cs a)
repair_leaves repair.busy a idle = refused a idle
repair_leaves (repair.absent gs) a idle = turned gs pinned.Absent a idle refl
repair_leaves (repair.removed gs) a idle = turned gs pinned.Removed a idle refl
repair_leaves (repair.through o gs g inner is) a idle = worked gs g inner a (ops_quiet inner (repair_ops is))

pub repairs_leaves : {o : RepairOutcome} {a b : Actor} → Repairs o a b → IsIdle a → Leaves a b
repairs_leaves {a = a} x idle = subst (Leaves a) (sym x.does.becomes) (repair_leaves x.licence a idle)
