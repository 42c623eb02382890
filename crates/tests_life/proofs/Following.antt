-- What a turn leaves of its actor.
use Rattle.std.proofs.Common.{◌≡◌, ℕ, ◌+◌, Bool, List, [], ◌∷◌, refl, sym, ap, ◌∙◌, subst, arith}
use Rattle.mf_machine.specs.declared.answer.Slot.TheVariants.{Hold}
use Rattle.mf_machine.specs.declared.view.View.{View}
use Rattle.mf_machine.specs.Steps as row
use Rattle.mf_machine.specs.Steps.{old_half, new_half, joined}
use Rattle.mf_check.specs.Families.{Code}
use Rattle.mf_convert.specs.declared.change.Change.{Change}
use Rattle.mf_convert.specs.Create.{Creates}
use Rattle.mf_convert.specs.Remove.{Removes}
use Rattle.mf_places.specs.declared.losses.LoseLine.{LoseLine}
use Rattle.mf_places.specs.declared.Name.{Name}
use Rattle.mf_places.specs.declared.servers.Servers.{Servers}
use Rattle.mf_plain.specs.Alone.{first_actor}
use Rattle.mf_plain.specs.Resting.{Resting, facts_of}
use Rattle.mf_read.specs.declared.outcome.ReadOutcome.{ReadOutcome}
use Rattle.mf_read.specs.Reading.{Reads}
use Rattle.mf_vault.specs.declared.answers.Pinned.{Pinned}
use Rattle.mf_vault.specs.declared.answers.Pinned.TheVariants.{At, Absent, Removed}
use Rattle.mf_vault.specs.Actor as call
use Rattle.mf_vault.specs.Actor.{Actor, Call, tried}
use Rattle.mf_vault.specs.Answers.{Goes}
use Rattle.mf_vault.specs.Conditions.{IsIdle, IsOfFamily}
use Rattle.mf_vault.specs.Facts.{Facts}
use Rattle.mf_vault.specs.Licence.{Does}
use Rattle.mf_vault.proofs.Doing.{one, facts_stay}
use Rattle.mf_vault.proofs.Entering.{tried_right}
use Rattle.mf_vault.proofs.Leaving.{quiet_all}
use Rattle.mf_convert.proofs.Leaving.{creates_leaves, removes_leaves}
use Rattle.mf_read.proofs.Leaving.{reads_leaves}
use Rattle.mf_shared.specs.declared.seat.Seat.{Seat}
use Rattle.mf_shared.specs.declared.shared.Shared.{Shared}
use Rattle.mf_shared.specs.Seats.{Begins, entering, let_go, view_of}
use Rattle.mf_shared.specs.Shared.{facts_in}
use Rattle.mf_shared.proofs.Going.{share_stays}
use Rattle.mf_shared.proofs.Shares.{share_kept}
use Rattle.tests_life.specs.Mendings.{HasLine}
use Rattle.tests_life.specs.Turns.{Follows, IsAble, IsTried}

pub follows : {cs : List Call} {a b : Actor} → Does cs a b → IsIdle b → Follows a b
follows d idle = record { idle = idle; facts = facts_stay d; share = share_kept d }

pub follows_on : {a b c : Actor} → Follows a b → Follows b c → Follows a c
follows_on x y = record { idle = y.idle; facts = y.facts ∙ x.facts; share = y.share ∙ x.share }

pub able_on : (family : Code) (bytes : List ℕ) {a b : Actor} → IsAble family bytes a → Follows a b
    → IsAble family bytes b
able_on family bytes able x = record {
  idle = x.idle;
  tried = subst (IsTried family bytes) (sym x.facts) able.tried;
}

-- a pin of the Hold slot
work_stays : (f : Facts) (gs : List ℕ) (p : Pinned) (v : View) → (tried f Hold gs p v).work ≡ v.work
work_stays f [] (At g) v = refl
work_stays f [] Absent v = refl
work_stays f [] Removed v = refl
work_stays f (g ∷ gs) p v = work_stays f gs p (row.missed g (row.looked (g + 1) v))

pub pinned_follows : {gs : List ℕ} {p : Pinned} {a b : Actor} → IsIdle a → Goes (call.pin Hold gs p) a b → Follows a b
pinned_follows {gs = gs} {p = p} {a = a} idle g = follows (one g) record {
  right = ap (λ (z : Actor). z.view.build.right) g.becomes ∙ (tried_right a.facts Hold gs p a.view ∙ idle.right);
  work = ap (λ (z : Actor). z.view.work) g.becomes ∙ (work_stays a.facts gs p a.view ∙ idle.work);
}

-- its unpin
pub freed_follows : {a b : Actor} → IsIdle a → Goes (call.unpin Hold) a b → Follows a b
freed_follows idle g = follows (one g) record {
  right = ap (λ (z : Actor). z.view.build.right) g.becomes ∙ idle.right;
  work = ap (λ (z : Actor). z.view.work) g.becomes ∙ idle.work;
}

-- a lose
pub lost_follows : {x : Name} {l : ℕ} {done : Bool} {a b : Actor} → IsIdle a → Goes (call.lose x l done) a b
    → Follows a b
lost_follows {x = x} {l = l} {done = done} {a = a} idle g =
    let s = quiet_all (call.lose x l done ∷ []) a (tt, tt) in follows (one g) record {
      right = ap (λ (z : Actor). z.view.build.right) g.becomes ∙ (s.right ∙ idle.right);
      work = ap (λ (z : Actor). z.view.work) g.becomes ∙ (s.work ∙ idle.work);
    }

-- a create, a remove and a read
pub cut_follows : {s : Servers} {a b : Actor} → IsIdle a → Goes (call.cut_off s) a b → Follows a b
cut_follows idle g = follows (one g) record {
  right = ap (λ (z : Actor). z.view.build.right) g.becomes ∙ idle.right;
  work = ap (λ (z : Actor). z.view.work) g.becomes ∙ idle.work;
}

pub created_follows : {o : Change} {a b : Actor} → IsIdle a → Creates o a b → Follows a b
created_follows idle x = follows x.does (creates_leaves x idle).idle

pub removed_follows : {o : Change} {a b : Actor} → IsIdle a → Removes o a b → Follows a b
removed_follows idle x = follows x.does (removes_leaves x idle).idle

pub read_follows : (o : ReadOutcome) {a b : Actor} → IsIdle a → Reads o a b → Follows a b
read_follows o idle x = follows x.2 (reads_leaves o x idle).idle

-- room in the ledger
pub same_follows : {a b : Actor} → IsIdle a → b ≡ a → Follows a b
same_follows idle e = record {
  idle = record {
    right = ap (λ (z : Actor). z.view.build.right) e ∙ idle.right;
    work = ap (λ (z : Actor). z.view.work) e ∙ idle.work;
  };
  facts = ap (λ (z : Actor). z.facts) e;
  share = ap (λ (z : Actor). z.view.share) e;
}

-- ---- the first actors

pub tried_at : (c : Code) (v : List ℕ) (r : Resting) (now : ℕ) (losses : List LoseLine) (t : List ℕ) (f : Facts)
    → f ≡ record (facts_of r now losses) { table = t } → IsOfFamily c.shape c.points r.book → r.bytes ≡ v
    → HasLine losses 11 0 → IsTried c v f
tried_at c v r now losses t f e family bytes line = subst (IsTried c v) (sym e) record {
  shaped = family;
  bytes = bytes;
  line = line;
}

pub first_able : (c : Code) (v : List ℕ) (r : Resting) (now : ℕ) (losses : List LoseLine) (a : Actor)
    → a ≡ first_actor r now losses → IsOfFamily c.shape c.points r.book → r.bytes ≡ v → HasLine losses 11 0
    → IsAble c v a
first_able c v r now losses a e family bytes line = record {
  idle = record {
    right = ap (λ (z : Actor). z.view.build.right) e;
    work = ap (λ (z : Actor). z.view.work) e;
  };
  tried = tried_at c v r now losses [] a.facts (ap (λ (z : Actor). z.facts) e) family bytes line;
}

pub entered_able : (c : Code) (v : List ℕ) (r : Resting) (now : ℕ) (losses : List LoseLine) (shared : Shared)
    (first seat : Seat) (a : Actor) → Begins r now losses shared first
    → a ≡ entering (facts_in shared) (view_of seat) → IsOfFamily c.shape c.points r.book → r.bytes ≡ v
    → HasLine losses 11 0 → IsAble c v a
entered_able c v r now losses shared first seat a begins e family bytes line = record {
  idle = record {
    right = ap (λ (z : Actor). z.view.build.right) e ∙ seat.unbound.right;
    work = ap (λ (z : Actor). z.view.work) e ∙ seat.unbound.work;
  };
  tried = tried_at c v r now losses (facts_in shared).table a.facts (ap (λ (z : Actor). z.facts) e ∙ begins.facts)
      family bytes line;
}

-- the two halves joined again
pub whole_again : (v u w : View) (a a' b b' : Actor) (l m o : View) → v.share ≡ 1073741824 → u ≡ old_half v
    → w ≡ new_half v → a.view ≡ u → b.view ≡ w → Follows a a' → Follows b b' → l ≡ let_go a'.view
    → m ≡ let_go b'.view → o ≡ joined l m → o.share ≡ 1073741824
whole_again v u w a a' b b' l m o whole left right start other x y e₁ e₂ both = let share = λ (z : View). z.share in
    let s₁ : u.share ≡ (old_half v).share = ap share left in
    let s₂ : w.share ≡ (new_half v).share = ap share right in
    let s₃ : a.view.share ≡ u.share = ap share start in
    let s₄ : b.view.share ≡ w.share = ap share other in
    let s₅ : l.share ≡ a'.view.share = ap share e₁ ∙ share_stays a'.view in
    let s₆ : m.share ≡ b'.view.share = ap share e₂ ∙ share_stays b'.view in
    let s₇ = x.share in let s₈ = y.share in
    let s₉ : o.share ≡ l.share + m.share = ap share both in omega arith
