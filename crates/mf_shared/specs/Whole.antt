-- What the access of an actor among many keeps.
use Rattle.std.specs.Prelude.{ℕ, ◌-◌, ◌≤◌, length, vec_capacity}
use Rattle.std.proofs.Common.{refl, sym, subst}
use Rattle.mf_machine.proofs.Lists.{truth_le}
use Rattle.mf_vault.specs.Actor.{Actor}
use Rattle.mf_vault.specs.Licence.{IsKept}
use Rattle.mf_gate.specs.declared.known.About.{About}
use Rattle.mf_gate.specs.Passes.{view}
use Rattle.mf_shared.specs.declared.access.SharedAccess.{SharedAccess}
use Rattle.mf_shared.specs.Shared.{actor_of}

-- what the access tells of its actor
abbrev pub told_by : {R : Type 0} → SharedAccess R → Actor
told_by s = actor_of s.shared.now s.pass s.ledger.items s.cut

-- for how many more entries its ledger has room
abbrev pub room_in : {R : Type 0} → SharedAccess R → ℕ
room_in s = vec_capacity s.ledger - length s.ledger.items

pub kept_of : {R : Type 0} (s : SharedAccess R) → IsKept (actor_of s.shared.now s.pass s.ledger.items s.cut)
kept_of s = record {
  file = record {
    layout = s.shared.now.file.layout;
    long = s.shared.now.file.long;
    bytes = s.shared.now.file.bytes;
  };
  ready = record {
    active = s.pass.active;
    free = refl;
    hold = subst (λ (k : About). (view s.pass).hold ≤ length k.book.shape.stages) s.at.1 s.pass.hold;
    work = subst (λ (k : About). (view s.pass).work ≤ length k.book.shape.stages) s.at.1 s.pass.work;
    right = subst (λ (x : ℕ). x ≤ 1) (sym s.right_is) (truth_le s.right);
  };
  alone = tt;
}
