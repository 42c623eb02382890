-- What the steps of a call met.
use Rattle.std.proofs.Common.{◌≡◌, ℕ, ◌+◌, ◌<◌, ◌≤◌, Bool, true, false, Option, Some, None, refl, sym, ap, ◌∙◌, subst}
use Rattle.std.proofs.Common.{arith, inl, inr}
use Rattle.mf_machine.specs.declared.answer.Closed.{Closed}
use Rattle.mf_machine.specs.declared.answer.Closed.TheVariants as closed
use Rattle.mf_machine.specs.declared.answer.LoseStep.{LoseStep}
use Rattle.mf_machine.specs.declared.answer.LoseStep.TheVariants as losing
use Rattle.mf_machine.specs.declared.answer.Slot.{Slot}
use Rattle.mf_machine.specs.declared.answer.Slot.TheVariants.{Hold, Work}
use Rattle.mf_machine.specs.declared.answer.State.{State}
use Rattle.mf_machine.specs.declared.answer.State.TheVariants as state
use Rattle.mf_machine.specs.declared.view.Step.{Step}
use Rattle.mf_machine.specs.declared.view.View.{View}
use Rattle.mf_machine.specs.File.{name_word, removed}
use Rattle.mf_machine.specs.Steps as row
use Rattle.mf_machine.specs.Steps.{Take, Drop}
use Rattle.mf_machine.specs.Words.{unborn, IsLost}
use Rattle.mf_machine.specs.Worlds.{counted}
use Rattle.mf_places.specs.declared.Name.{Name}
use Rattle.mf_places.specs.Numbers.{number_of}
use Rattle.mf_vault.specs.declared.answers.Got.{Got}
use Rattle.mf_vault.specs.declared.answers.Got.TheVariants as got
use Rattle.mf_vault.specs.declared.answers.Pinned.{Pinned}
use Rattle.mf_vault.specs.declared.answers.Pinned.TheVariants.{At, Absent, Removed}
use Rattle.mf_vault.specs.Answers.{IsState, IsGot, IsReached, FairGot, was_dropped, was_lost}
use Rattle.mf_vault.specs.Facts.{Facts, file as file_facts}
use Rattle.mf_vault.specs.Actor.{Actor}
use Rattle.mf_gate.specs.declared.gate.Pass.{Pass}
use Rattle.mf_gate.specs.declared.known.About.{About}
use Rattle.mf_gate.specs.Passes.{Steps, Turns, Loses, Drops, about, file, told, view}
use Rattle.mf_gate.specs.Table.{file_of}
use Rattle.mf_shared.specs.declared.shared.Shared.{Shared}
use Rattle.mf_shared.specs.Noted.{Meets, NameMeets, PinMeets, StateMeets, GotMeets, IsDiscarded}
use Rattle.mf_shared.specs.Shared.{facts_in}
use Rattle.mf_plain.proofs.Named.{takes_lost}
use Rattle.mf_shared.proofs.Seen.{away_never}

-- one step on the word i that met x
abbrev pub next : ℕ → ℕ → Step → Step
next i x u = record { count = u.count + 1; word = i; met = x }

pub meets : (i x : ℕ) (P : ℕ → Type 0) (u v : Step) → v ≡ next i x u → P x → Meets i P u v
meets i x P u v e h = subst (Meets i P u) (sym e) record { rose = omega arith; word = refl; met = h }

-- steps before it
pub meets_behind : (i : ℕ) (P : ℕ → Type 0) (u w v : Step) → u.count ≤ w.count → Meets i P w v → Meets i P u v
meets_behind i P u w v l m = record { rose = let r = m.rose in omega arith; word = m.word; met = m.met }

pub pin_behind : (f : Facts) (p : Pinned) (u w v : Step) → u.count ≤ w.count → PinMeets f p w v → PinMeets f p u v
pin_behind f (At g) u w v l m = meets_behind (g + 2) (λ x. row.pin_answer x ≡ true) u w v l m
pin_behind f Absent u w v l m = meets_behind 0 (λ x. x ≡ 0) u w v l m
pin_behind f Removed u w v l m = meets_behind 0 (λ x. x ≡ removed (file_facts f)) u w v l m

-- who can be reached isn't Away
pub got_noted : (a : Actor) (x : Name) (o : Got) (u v : Step) → FairGot a x o → IsReached a x
    → NameMeets a.facts x (IsGot o) u v → GotMeets a.facts x o u v
got_noted a x (got.Here c) u v fair reached m = m
got_noted a x (got.Lost l) u v fair reached m = m
got_noted a x (got.Away s) u v fair reached m = absurd (reached fair.0)
got_noted a x got.Memory u v fair reached m = m

-- ---- a row leaves the note to the table

pin_view : (b : Bool) (slot : Slot) (g i x : ℕ) (v : View)
    → (counted i x (row.pin_view b slot g v)).step ≡ next i x v.step
pin_view true Hold g i x v = refl
pin_view true Work g i x v = refl
pin_view false slot g i x v = refl

unpin_view : (slot : Slot) (i x : ℕ) (v : View) → (counted i x (row.unpinned slot v)).step ≡ next i x v.step
unpin_view Hold i x v = refl
unpin_view Work i x v = refl

close_view : (c : Closed) (g i x : ℕ) (v : View) → (counted i x (row.close_view c g v)).step ≡ next i x v.step
close_view closed.Done g i x v = refl
close_view (closed.Pins n) g i x v = refl
close_view closed.Already g i x v = refl

begin_view : (b : Bool) (i x : ℕ) (v : View) → (counted i x (row.begin_view b v)).step ≡ next i x v.step
begin_view true i x v = refl
begin_view false i x v = refl

see_view : (s : State) (n i x : ℕ) (v : View) → (counted i x (row.see_view s n v)).step ≡ next i x v.step
see_view state.Unborn n i x v = refl
see_view state.Here n i x v = refl
see_view (state.Lost l) n i x v = refl
see_view (state.Away s) n i x v = refl

take_view : (t : Take) (n i x : ℕ) (v : View) → (counted i x (row.take_view t n v)).step ≡ next i x v.step
take_view row.chunk n i x v = refl
take_view (row.gone l) n i x v = refl
take_view row.again n i x v = refl

lose_view : (a : LoseStep) (n l i x : ℕ) (v : View) → (counted i x (row.lose_view a n l v)).step ≡ next i x v.step
lose_view losing.Done n l i x v = refl
lose_view losing.Again n l i x v = refl
lose_view losing.Nothing n l i x v = refl

drop_view : (d : Drop) (n y i x : ℕ) (v : View) → (counted i x (row.drop_view d n y v)).step ≡ next i x v.step
drop_view row.drops n y i x v = refl
drop_view row.tries n y i x v = refl
drop_view row.nothing n y i x v = refl

again_view : (b : Bool) (n i x : ℕ) (v : View)
    → (counted i x (row.drop_again_view b n v)).step ≡ next i x v.step
again_view true n i x v = refl
again_view false n i x v = refl

-- ---- the steps of a pass

abbrev note : Pass → Step
note p = (view p).step

pub look_meets : (P : ℕ → Type 0) (x : ℕ) (p p' : Pass) → Steps row.look_row x p p' → P x → Meets 0 P (note p) (note p')
look_meets P x p p' s h = meets 0 x P (note p) (note p') (ap (λ (v : View). v.step) s.becomes) h

pub pin_meets : (P : ℕ → Type 0) (slot : Slot) (g x : ℕ) (p p' : Pass) → Steps (row.pin_row slot g) x p p' → P x
    → Meets (g + 2) P (note p) (note p')
pin_meets P slot g x p p' s h = meets (g + 2) x P (note p) (note p')
    (ap (λ (v : View). v.step) s.becomes ∙ pin_view (row.pin_answer x) slot g (g + 2) x (view p)) h

pub unpin_meets : (P : ℕ → Type 0) (slot : Slot) (g x : ℕ) (p p' : Pass) → Steps (row.unpin_row slot g) x p p' → P x
    → Meets (g + 2) P (note p) (note p')
unpin_meets P slot g x p p' s h = meets (g + 2) x P (note p) (note p')
    (ap (λ (v : View). v.step) s.becomes ∙ unpin_view slot (g + 2) x (view p)) h

pub close_meets : (P : ℕ → Type 0) (g x : ℕ) (p p' : Pass) → Steps (row.close_row g) x p p' → P x
    → Meets (g + 2) P (note p) (note p')
close_meets P g x p p' s h = meets (g + 2) x P (note p) (note p')
    (ap (λ (v : View). v.step) s.becomes ∙ close_view (row.close_answer x) g (g + 2) x (view p)) h

pub begin_meets : (P : ℕ → Type 0) (x : ℕ) (p p' : Pass) → Steps row.begin_row x p p' → P x
    → Meets 1 P (note p) (note p')
begin_meets P x p p' s h = meets 1 x P (note p) (note p')
    (ap (λ (v : View). v.step) s.becomes ∙ begin_view (row.begin_answer x) 1 x (view p)) h

pub end_meets : (P : ℕ → Type 0) (x : ℕ) (p p' : Pass) → Steps row.end_row x p p' → P x → Meets 1 P (note p) (note p')
end_meets P x p p' s h = meets 1 x P (note p) (note p') (ap (λ (v : View). v.step) s.becomes) h

pub publish_meets : (P : ℕ → Type 0) (n x : ℕ) (p p' : Pass) → Steps (row.publish_row n) x p p' → P x
    → Meets 0 P (note p) (note p')
publish_meets P n x p p' s h = meets 0 x P (note p) (note p') (ap (λ (v : View). v.step) s.becomes) h

-- ---- the steps on a name

-- the name y has the number n
module _ (s : Shared) (p p' : Pass) (y : Name) (n : ℕ) (of : told p ≡ about s.gate)
    (same : n ≡ number_of (about s.gate).book y) where
  -- a step on its word that met x
  on_name : (P : ℕ → Type 0) (x : ℕ) (now : Step) → now ≡ next (name_word (file p) n) x (note p) → P x
      → NameMeets (facts_in s) y P (note p) now
  on_name P x now e h = subst (λ i. Meets i P (note p) now)
      (ap (λ (k : About). name_word (file_of k) n) of ∙ ap (λ j. name_word (file_of (about s.gate)) j) same)
      (meets (name_word (file p) n) x P (note p) now e h)

  pub see_meets : (x : ℕ) (a : State) → Steps (row.see_row (file p) n) x p p' → a ≡ row.see_answer x
      → StateMeets (facts_in s) y a (note p) (note p')
  see_meets x a step is = by_answer a is
    where
      met : (b : State) → b ≡ row.see_answer x → (P : ℕ → Type 0) → P x → NameMeets (facts_in s) y P (note p) (note p')
      met b e P h = on_name P x (note p') (ap (λ (v : View). v.step) step.becomes
          ∙ see_view (row.see_answer x) n (name_word (file p) n) x (view p)) h

      by_answer : (b : State) → b ≡ row.see_answer x → StateMeets (facts_in s) y b (note p) (note p')
      by_answer state.Unborn e = met state.Unborn e (IsState state.Unborn) (sym e)
      by_answer state.Here e = met state.Here e (IsState state.Here) (sym e)
      by_answer (state.Lost l) e = met (state.Lost l) e (IsState (state.Lost l)) (sym e)
      by_answer (state.Away t) e = absurd (away_never t x e)

  pub birth_meets : Turns (row.birth_row (file p) n) (row.born_row (file p) n) 0 p p'
      → NameMeets (facts_in s) y (λ z. z ≡ unborn) (note p) (note p')
  birth_meets t = on_name (λ z. z ≡ unborn) 0 (note p') (ap (λ (v : View). v.step) t.becomes) refl

  pub retake_meets : (x : ℕ) → Turns (row.retake_row (file p) n) (row.restored_row (file p) n) x p p' → IsLost x
      → NameMeets (facts_in s) y IsLost (note p) (note p')
  retake_meets x t lost = on_name IsLost x (note p') (ap (λ (v : View). v.step) t.becomes) lost

  -- a take that found the name lost
  pub lost_meets : (l x : ℕ) → Steps (row.take_row (file p) n) x p p' → x ≡ 4 + l
      → GotMeets (facts_in s) y (got.Lost l) (note p) (note p')
  lost_meets l x step is = on_name (IsGot (got.Lost l)) x (note p') (ap (λ (v : View). v.step) step.becomes
      ∙ take_view (row.take_answer x) n (name_word (file p) n) x (view p)) (ap row.take_answer is ∙ takes_lost l)

  pub take_rises : (x : ℕ) → Steps (row.take_row (file p) n) x p p' → (note p).count ≤ (note p').count
  take_rises x step = let e = ap (λ (v : View). v.step.count) step.becomes in
      let c = ap (λ (u : Step). u.count) (take_view (row.take_answer x) n (name_word (file p) n) x (view p)) in
      omega arith

  -- one that found it Here, and the give behind it
  pub here_meets : (P : ℕ → Type 0) (x z : ℕ) (p₂ : Pass) (f : Rattle.mf_machine.specs.File.File)
      → Steps (row.take_row (file p) n) x p p' → Steps (row.give_row f n) z p' p₂ → P x
      → NameMeets (facts_in s) y P (note p) (note p₂)
  here_meets P x z p₂ f take give h =
      let taken = on_name P x (note p') (ap (λ (v : View). v.step) take.becomes
      ∙ take_view (row.take_answer x) n (name_word (file p) n) x (view p)) h in
      subst (NameMeets (facts_in s) y P (note p)) (sym (ap (λ (v : View). v.step) give.becomes)) record {
        rose = let r = taken.rose in omega arith;
        word = taken.word;
        met = taken.met;
      }

  pub lose_rises : (l x : ℕ) (a : LoseStep) → Loses (file p) n l a x p p' → (note p).count ≤ (note p').count
  lose_rises l x a t = let c = ap (λ (u : Step). u.count) (lose_view (row.lose_answer x) n l (name_word (file p) n) x
      (view p)) in by_answer a t c
    where
      by_answer : (a : LoseStep) → Loses (file p) n l a x p p'
          → (row.lose_view (row.lose_answer x) n l (view p)).step.count + 1 ≡ (view p).step.count + 1
          → (note p).count ≤ (note p').count
      by_answer losing.Done t c = let e = ap (λ (v : View). v.step.count) t.becomes in omega arith
      by_answer losing.Again t c = let e = ap (λ (v : View). v.step.count) t.becomes in omega arith
      by_answer losing.Nothing t c = let e = ap (λ (v : View). v.step.count) t.becomes in omega arith

  pub lose_meets : (l x : ℕ) (a : LoseStep) (b : Bool) → Loses (file p) n l a x p p' → a ≡ row.lose_answer x
      → was_lost b ≡ a → NameMeets (facts_in s) y (λ z. was_lost b ≡ row.lose_answer z) (note p) (note p')
  lose_meets l x losing.Done b t is e = on_name (λ z. was_lost b ≡ row.lose_answer z) x (note p')
      (ap (λ (v : View). v.step) t.becomes ∙ lose_view (row.lose_answer x) n l (name_word (file p) n) x (view p))
      (e ∙ is)
  lose_meets l x losing.Again b t is e = on_name (λ z. was_lost b ≡ row.lose_answer z) x (note p')
      (ap (λ (v : View). v.step) t.becomes ∙ lose_view (row.lose_answer x) n l (name_word (file p) n) x (view p))
      (e ∙ is)
  lose_meets l x losing.Nothing b t is e = on_name (λ z. was_lost b ≡ row.lose_answer z) x (note p')
      (ap (λ (v : View). v.step) t.becomes ∙ lose_view (row.lose_answer x) n l (name_word (file p) n) x (view p))
      (e ∙ is)

  pub drop_meets : (x : ℕ) (b : Bool) (d : Drop) → d ≡ row.drop_answer x → Drops (file p) n d x b p p'
      → NameMeets (facts_in s) y (IsDiscarded b) (note p) (note p')
  drop_meets x b row.drops is t = on_name (IsDiscarded b) x (note p') (ap (λ (v : View). v.step) t.1.becomes
      ∙ drop_view (row.drop_answer x) n x (name_word (file p) n) x (view p)) (inl (t.0 ∙ ap was_dropped is))
  drop_meets x b row.nothing is t = on_name (IsDiscarded b) x (note p') (ap (λ (v : View). v.step) t.1.becomes
      ∙ drop_view (row.drop_answer x) n x (name_word (file p) n) x (view p)) (inl (t.0 ∙ ap was_dropped is))
  drop_meets x b row.tries is (z, t, e) =
      let i = name_word (file p) n in
      let first : View = counted i x (row.drop_view (row.drop_answer x) n x (view p)) in
      let second = ap (λ (v : View). v.step) t.becomes ∙ again_view (row.drop_again_answer x z) n i z first in
      let count = ap (λ (u : Step). u.count) (drop_view (row.drop_answer x) n x i x (view p)) in
      subst (λ j. Meets j (IsDiscarded b) (note p) (note p'))
      (ap (λ (k : About). name_word (file_of k) n) of ∙ ap (λ j. name_word (file_of (about s.gate)) j) same)
      (meets_behind i (IsDiscarded b) (note p) first.step (note p') (omega arith)
      (meets i z (IsDiscarded b) first.step (note p') second (inr (x, sym is, e))))
