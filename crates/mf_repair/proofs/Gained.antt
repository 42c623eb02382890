-- What a repair adds to its actor's Made and Met.
use Rattle.std.proofs.Common.{◌≡◌, ℕ, true, List, [], ◌∷◌, ◌++◌, refl, subst}
use Rattle.mf_machine.specs.declared.answer.Slot.TheVariants.{Work}
use Rattle.mf_vault.specs.declared.answers.Pinned.TheVariants as pinned
use Rattle.mf_vault.specs.Facts.{Facts}
use Rattle.mf_vault.specs.Actor.{Call, begin, pin, unpin, end}
use Rattle.mf_vault.proofs.Engines as engine
use Rattle.mf_vault.proofs.Engines.{Profile, HaveNoClose, both, no_close_then, ops_no_close}
use Rattle.mf_repair.specs.declared.outcome.RepairOutcome.{RepairOutcome}
use Rattle.mf_repair.specs.Laws.{RepairsGain, rights_of, refusals_of}
use Rattle.mf_repair.specs.Repair as repair
use Rattle.mf_repair.specs.Repair.{IsEnd, IsRepairOf, IsRepair}
use Rattle.mf_repair.proofs.Leaving.{repair_ops}

-- a repair that began isn't Busy
end_began : {f : Facts} {g j : ℕ} {o : RepairOutcome} {cs : List Call} → IsEnd f g j o cs
    → (1 ≡ rights_of o) × (0 ≡ refusals_of o)
end_began (repair.data_lost calls short more) = (refl, refl)
end_began (repair.unreachable calls x server others short low is) = (refl, refl)
end_began (repair.no_memory calls cut) = (refl, refl)

began : {f : Facts} {g : ℕ} {o : RepairOutcome} {cs : List Call} → IsRepairOf f g o cs
    → (1 ≡ rights_of o) × (0 ≡ refusals_of o)
began (repair.repaired calls are) = (refl, refl)
began (repair.ended o j front last low are ends) = end_began ends

plain : {f : Facts} {o : RepairOutcome} {cs : List Call} → IsRepair f o cs
    → Profile cs [] (rights_of o) (refusals_of o) × HaveNoClose cs
plain repair.busy = (engine.was_busy, tt)
plain (repair.absent gs) = (both (engine.begun_and_pinned gs pinned.Absent) engine.ended, tt)
plain (repair.removed gs) = (both (engine.begun_and_pinned gs pinned.Removed) engine.ended, tt)
plain (repair.through o gs g inner is) = let e = began is in let ops = repair_ops is in
    let calls : List Call = begin true ∷ pin Work gs (pinned.At g) ∷ (inner ++ (unpin Work ∷ end ∷ [])) in (
      subst (λ n. Profile calls [] n (refusals_of o)) e.0 (subst (λ n. Profile calls [] 1 n) e.1
          (both (engine.begun_and_pinned gs (pinned.At g)) (both (engine.ops ops) engine.unpinned_and_ended))),
      no_close_then inner (unpin Work ∷ end ∷ []) (ops_no_close inner ops) tt,
    )

pub repairs_gain : RepairsGain
repairs_gain a b o x = let p = plain x.licence in
    engine.engine_gains p.0 x.does (engine.free_without x.calls a p.1)
