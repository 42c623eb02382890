-- What a remove did.
use Rattle.std.proofs.Common.{◌≡◌, ℕ, ◌+◌, true, [], ◌∷◌, sym, ap, subst, inr, arith}
use Rattle.mf_machine.specs.declared.answer.Slot.TheVariants.{Work}
use Rattle.mf_vault.specs.declared.answers.Pinned.TheVariants.{At}
use Rattle.mf_vault.specs.Facts.{stages}
use Rattle.mf_vault.specs.Actor.{Actor, begin, end, pin, unpin, publish}
use Rattle.mf_vault.specs.Answers.{Goes}
use Rattle.mf_vault.specs.Licence.{Entered}
use Rattle.mf_vault.specs.May.{MayPublish}
use Rattle.mf_vault.proofs.Doing.{one, then, after}
use Rattle.mf_convert.specs.declared.change.Change.TheVariants as change
use Rattle.mf_convert.specs.Remove as remove
use Rattle.mf_convert.specs.Remove.{Removes}

pub may_publish : {a c d : Actor} {g n : ℕ} → Entered (At g) a c → Goes (unpin Work) c d → n ≡ stages a.facts
    → MayPublish (n + 1) d
may_publish {a = a} {c = c} {d = d} {g = g} {n = n} e x is = subst (λ (z : Actor). MayPublish (n + 1) z) (sym x.becomes)
    (let low = e.range.0 in let same = ap stages e.facts in
    (e.building.right, e.building.looked, (g + 1, e.building.last, inr (omega arith, omega arith, omega arith))))

pub removed_now : {a c d x b : Actor} {g n : ℕ} → Entered (At g) a c → Goes (unpin Work) c d
    → Goes (publish (n + 1)) d x → Goes end x b → n ≡ stages a.facts → Removes change.RemovedNow a b
removed_now {a = a} {b = b} {g = g} {n = n} e u p f is = record {
  calls = begin true ∷ pin Work e.missed (At g) ∷ unpin Work ∷ publish (n + 1) ∷ end ∷ [];
  licence = subst (λ m. remove.IsRemove a.facts change.RemovedNow
      (begin true ∷ pin Work e.missed (At g) ∷ unpin Work ∷ publish (m + 1) ∷ end ∷ []))
      (sym is) (remove.removed_now e.missed g);
  does = then e.does (after u (after p (one f)));
}
