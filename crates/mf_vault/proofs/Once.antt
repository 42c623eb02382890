-- Where the whole state is told, a call has one answer.
use Rattle.std.proofs.Common.{◌≡◌, ◌≢◌, ℕ, Bool, true, false, Some, sym, refl, ap, ◌∙◌, subst, arith, IfSome}
use Rattle.mf_machine.specs.declared.answer.State.{State}
use Rattle.mf_machine.specs.declared.answer.State.TheVariants as state
use Rattle.mf_machine.specs.declared.answer.LoseStep.TheVariants as losing
use Rattle.mf_machine.specs.Steps as step
use Rattle.mf_machine.specs.Worlds.{World, word_of}
use Rattle.mf_places.specs.declared.Name.{Name}
use Rattle.mf_vault.specs.declared.answers.Got.{Got}
use Rattle.mf_vault.specs.declared.answers.Got.TheVariants as got
use Rattle.mf_vault.specs.declared.answers.Pinned.{Pinned}
use Rattle.mf_vault.specs.declared.answers.Pinned.TheVariants.{At, Absent, Removed}
use Rattle.mf_vault.specs.Actor.{Actor, Call, word_at}
use Rattle.mf_vault.specs.Answers.{Goes, IsAnswer, IsNumber, IsState, IsGot, FairState, FairGot, was_lost}
use Rattle.mf_vault.specs.Laws.{OneAnswer}

pub told_in : {c : Call} {a b : Actor} (w : World) → a.whole ≡ Some w → Goes c a b → IsAnswer a.facts c w
told_in {c = c} {a = a} w e g = subst (λ o. IfSome o (IsAnswer a.facts c)) e g.told

-- a number tells one answer
pub one_number : (q x : ℕ) (p r : Pinned) → IsNumber q p x → IsNumber q r x → p ≡ r
one_number q x (At g) (At h) m n = ap At (let a = m.0 in let b = n.0 in let z : g ≡ h = omega arith in z)
one_number q x (At g) Absent m n = absurd (let a = m.0 in omega arith)
one_number q x (At g) Removed m n = absurd (let a = m.0 in let b = m.1 in omega arith)
one_number q x Absent (At h) m n = absurd (let a = n.0 in omega arith)
one_number q x Absent Absent m n = refl
one_number q x Absent Removed m n = absurd (omega arith)
one_number q x Removed (At h) m n = absurd (let a = n.0 in let b = n.1 in omega arith)
one_number q x Removed Absent m n = absurd (omega arith)
one_number q x Removed Removed m n = refl

-- a word tells one state, and one server is the name's
one_state : (a : Actor) (x : Name) (y : ℕ) (s t : State) → FairState a x s → FairState a x t → IsState s y → IsState t y
    → s ≡ t
one_state a x y state.Unborn state.Unborn f g m n = refl
one_state a x y state.Unborn state.Here f g m n = sym m ∙ n
one_state a x y state.Unborn (state.Lost l) f g m n = sym m ∙ n
one_state a x y state.Unborn (state.Away r) f g m n = absurd (f.0 g.0)
one_state a x y state.Here state.Unborn f g m n = sym m ∙ n
one_state a x y state.Here state.Here f g m n = refl
one_state a x y state.Here (state.Lost l) f g m n = sym m ∙ n
one_state a x y state.Here (state.Away r) f g m n = absurd (f g.0)
one_state a x y (state.Lost k) state.Unborn f g m n = sym m ∙ n
one_state a x y (state.Lost k) state.Here f g m n = sym m ∙ n
one_state a x y (state.Lost k) (state.Lost l) f g m n = sym m ∙ n
one_state a x y (state.Lost k) (state.Away r) f g m n = absurd (f.0 g.0)
one_state a x y (state.Away q) state.Unborn f g m n = absurd (g.0 f.0)
one_state a x y (state.Away q) state.Here f g m n = absurd (g f.0)
one_state a x y (state.Away q) (state.Lost l) f g m n = absurd (g.0 f.0)
one_state a x y (state.Away q) (state.Away r) f g m n = ap (λ z. state.Away z) (f.1 ∙ sym g.1)

one_got : (a : Actor) (x : Name) (y : ℕ) (s t : Got) → FairGot a x s → FairGot a x t → IsGot s y → IsGot t y
    → s ≢ got.Memory → t ≢ got.Memory → s ≡ t
one_got a x y got.Memory t f g m n u v = absurd (u refl)
one_got a x y (got.Here c) got.Memory f g m n u v = absurd (v refl)
one_got a x y (got.Here c) (got.Here d) f g m n u v = ap (λ z. got.Here z) (f.1 ∙ sym g.1)
one_got a x y (got.Here c) (got.Lost l) f g m n u v = absurd (let z : step.chunk ≡ step.gone l = sym m ∙ n in cc)
one_got a x y (got.Here c) (got.Away r) f g m n u v = absurd (f.0 g.0)
one_got a x y (got.Lost k) got.Memory f g m n u v = absurd (v refl)
one_got a x y (got.Lost k) (got.Here d) f g m n u v = absurd (let z : step.gone k ≡ step.chunk = sym m ∙ n in cc)
one_got a x y (got.Lost k) (got.Lost l) f g m n u v =
    ap (λ z. got.Lost z) (let z : step.gone k ≡ step.gone l = sym m ∙ n in let e : k ≡ l = cc in e)
one_got a x y (got.Lost k) (got.Away r) f g m n u v = absurd (f.0 g.0)
one_got a x y (got.Away q) got.Memory f g m n u v = absurd (v refl)
one_got a x y (got.Away q) (got.Here d) f g m n u v = absurd (g.0 f.0)
one_got a x y (got.Away q) (got.Lost l) f g m n u v = absurd (g.0 f.0)
one_got a x y (got.Away q) (got.Away r) f g m n u v = ap (λ z. got.Away z) (f.1 ∙ sym g.1)

one_loss : (s t : Bool) → was_lost s ≡ was_lost t → s ≡ t
one_loss true true e = refl
one_loss true false e = absurd (let z : losing.Done ≡ losing.Nothing = e in cc)
one_loss false true e = absurd (let z : losing.Nothing ≡ losing.Done = e in cc)
one_loss false false e = refl

pub one_answer : OneAnswer
one_answer = record {
  begin = λ a b c w s t e x y. told_in w e x ∙ sym (told_in w e y);
  pin = λ a b c w slot gs hs p q e x y. let m = told_in w e x in let n = told_in w e y in (
    m.0 ∙ sym n.0,
    one_number (Rattle.mf_vault.specs.Facts.stages a.facts) (word_of w 0) p q m.1 n.1,
  );
  probe = λ a b c w x s t e y z. one_state a x (word_at a.facts w x) s t y.fair z.fair (told_in w e y) (told_in w e z);
  close = λ a b c w g s t e x y. told_in w e x ∙ sym (told_in w e y);
  discard = λ a b c w x s t e y z. told_in w e y ∙ sym (told_in w e z);
  get = λ a b c w x s t e y z u v. one_got a x (word_at a.facts w x) s t y.fair z.fair (told_in w e y) (told_in w e z) u
      v;
  lose = λ a b c w x l s t e y z. one_loss s t (told_in w e y ∙ sym (told_in w e z));
}
