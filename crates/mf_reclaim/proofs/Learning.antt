-- The pin by which a reclaim learns the published number, and a reclaim from its parts.
use Rattle.std.proofs.Common.{◌≡◌, ℕ, ◌+◌, ◌<◌, ◌≤◌, List, [], ◌∷◌, ◌++◌, length, filter, refl, sym, ap, ◌∙◌, subst}
use Rattle.std.proofs.Common.{arith}
use Rattle.mf_machine.specs.declared.answer.Closed.{Closed}
use Rattle.mf_machine.specs.declared.answer.Slot.TheVariants.{Work}
use Rattle.mf_vault.specs.declared.answers.Pinned.TheVariants.{At, Absent, Removed}
use Rattle.mf_vault.specs.Facts.{Facts, stages}
use Rattle.mf_vault.specs.Actor.{Actor, Call, pin, unpin, tried, did}
use Rattle.mf_vault.specs.Answers.{Goes}
use Rattle.mf_vault.specs.Conditions.{IsIdle, Leaves}
use Rattle.mf_vault.specs.Licence.{Does}
use Rattle.mf_vault.proofs.Doing.{one, then, after, same, facts_kept}
use Rattle.mf_vault.proofs.Entering.{tried_right, tried_hold, tried_work, tried_number, pinned_at}
use Rattle.mf_reclaim.specs.declared.outcome.ReclaimOutcome.{ReclaimOutcome}
use Rattle.mf_reclaim.specs.declared.outcome.ReclaimOutcome.TheVariants as outcome
use Rattle.mf_reclaim.specs.Reclaim as licence
use Rattle.mf_reclaim.specs.Reclaim.{Reclaims, Learns, closes, discards, free_names, is_done, pins_from}
use Rattle.mf_reclaim.specs.Collecting.{HasSeen, Collects, Discards}
use Rattle.mf_reclaim.proofs.Closings.{leaves_nothing}

-- the published number is learnt, and the actor is as before
pub record Learnt (end : ℕ) (a d : Actor) : Type 0 where
  pub calls : List Call
  pub learns : Learns a.facts end calls
  pub does : Does calls a d
  pub leaves : Leaves a d
  pub seen : HasSeen end d

pub learnt_at : {g : ℕ} {a o b d : Actor} → IsIdle a → o ≡ a → ((gs : List ℕ) × Goes (pin Work gs (At g)) o b)
    → Goes (unpin Work) b d → Learnt g a d
learnt_at {g = g} {a = a} {o = o} {b = b} {d = d} idle stays (gs, first) y =
    let x = subst (λ (z : Actor). Goes (pin Work gs (At g)) z b) stays first in
    let low = (pinned_at x).1 in
    record {
      calls = pin Work gs (At g) ∷ unpin Work ∷ [];
      learns = licence.published gs g;
      does = after x (one y);
      leaves = subst (λ (z : Actor). Leaves a z) (sym (y.becomes ∙ ap (λ (z : Actor). did
          (unpin Work) z) x.becomes)) record {
            idle = record { right = tried_right a.facts Work gs (At g) a.view ∙ idle.right; work = refl };
            facts = refl;
            hold = tried_hold a.facts gs (At g) a.view;
            cut = refl;
          };
      seen = record {
        stage = let e = ap stages (facts_kept y) in omega arith;
        number = let e = ap (λ (z : Actor). z.view.seen.number) (y.becomes ∙ ap (λ (z : Actor). did
            (unpin Work) z) x.becomes)
            ∙ tried_number a.facts Work gs (At g) a.view in omega arith;
      };
    }

pub learnt_removed : {a o b : Actor} → IsIdle a → o ≡ a → ((gs : List ℕ) × Goes (pin Work gs Removed) o b)
    → Learnt (stages b.facts) a b
learnt_removed {a = a} {o = o} {b = b} idle stays (gs, first) =
    let x = subst (λ (z : Actor). Goes (pin Work gs Removed) z b) stays first in
    record {
      calls = pin Work gs Removed ∷ [];
      learns = subst (λ f. Learns a.facts (stages f) (pin Work gs Removed ∷ [])) (sym (facts_kept x))
          (licence.removed gs);
      does = one x;
      leaves = subst (λ (z : Actor). Leaves a z) (sym x.becomes) record {
        idle = record {
          right = tried_right a.facts Work gs Removed a.view ∙ idle.right;
          work = tried_work a.facts gs Removed a.view ∙ idle.work;
        };
        facts = refl;
        hold = tried_hold a.facts gs Removed a.view;
        cut = refl;
      };
      seen = record {
        stage = omega arith;
        number = let e = ap (λ (z : Actor). z.view.seen.number) x.becomes
            ∙ tried_number a.facts Work gs Removed a.view in
            let f = ap stages (facts_kept x) in omega arith;
      };
    }

-- the outcomes
pub absent : {a o b : Actor} → o ≡ a → ((gs : List ℕ) × Goes (pin Work gs Absent) o b) → Reclaims outcome.Absent a b
absent {a = a} {b = b} stays (gs, first) = record {
  calls = pin Work gs Absent ∷ [];
  licence = licence.absent gs;
  does = one (subst (λ (z : Actor). Goes (pin Work gs Absent) z b) stays first);
}

pub absent_leaves : {a o b : Actor} → IsIdle a → o ≡ a → ((gs : List ℕ) × Goes (pin Work gs Absent) o b) → Leaves a b
absent_leaves {a = a} {b = b} idle stays (gs, first) =
    let x = subst (λ (z : Actor). Goes (pin Work gs Absent) z b) stays first in
    subst (λ (z : Actor). Leaves a z) (sym x.becomes) record {
      idle = record {
        right = tried_right a.facts Work gs Absent a.view ∙ idle.right;
        work = tried_work a.facts gs Absent a.view ∙ idle.work;
      };
      facts = refl;
      hold = tried_hold a.facts gs Absent a.view;
      cut = refl;
    }

pub no_memory : {a b : Actor} → b ≡ a → Reclaims outcome.Memory a b
no_memory e = record { calls = []; licence = licence.no_memory; does = same e }

pub memory_leaves : {a b : Actor} → IsIdle a → b ≡ a → Leaves a b
memory_leaves {a = a} idle e = subst (λ (z : Actor). Leaves a z) (sym e) (leaves_nothing idle)

pub reclaimed : {end : ℕ} {o : ReclaimOutcome} {a d e : Actor} → Learnt end a d → Collects end o d e → Reclaims o a e
reclaimed {o = o} {a = a} {d = d} {e = e} l k = subst (λ u. Reclaims u a e) (sym k.outcome) record {
  calls = l.calls ++ (closes 0 k.answers ++ discards (free_names a.facts.book k.answers) k.changed);
  licence = licence.reclaimed l.calls k.answers k.changed (subst (λ n. Learns a.facts n l.calls)
      (sym k.each) l.learns)
      (subst (λ f. length k.changed ≡ length (free_names f.book k.answers)) l.leaves.facts k.long);
  does = then l.does (subst (λ f. Does (closes 0 k.answers ++ discards (free_names f.book k.answers) k.changed) d e)
      l.leaves.facts k.does);
}

pub collected : {end closed dropped : ℕ} {pinned : List (ℕ × ℕ)} {a b d : Actor} (answers : List Closed)
    → length answers ≡ end → Does (closes 0 answers) a b → Leaves a b → Discards answers dropped b d
    → closed ≡ length (filter is_done answers) → pinned ≡ pins_from 0 answers
    → Collects end (outcome.Reclaimed closed dropped pinned) a d
collected {a = a} {b = b} {d = d} answers each first l k done pins = record {
  answers = answers;
  changed = k.changed;
  each = each;
  long = subst (λ f. length k.changed ≡ length (free_names f.book answers)) l.facts k.long;
  outcome = (λ j. outcome.Reclaimed (done j) (k.count j) (pins j));
  does = then first (subst (λ f. Does (discards (free_names f.book answers) k.changed) b d) l.facts k.does);
}
