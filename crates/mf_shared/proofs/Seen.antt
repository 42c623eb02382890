-- What a see tells, as a call of an access says it.
use Rattle.std.proofs.Common.{◌≡◌, ℕ, ◌+◌, ◌-◌, ◌<◌, List, refl, sym, subst, ap, ◌∙◌, arith}
use mathlib.Core.Logic.{dite}
use native.Mathlib.Decide.{ℕ_discrete}
use Rattle.mf_machine.specs.declared.answer.State.{State}
use Rattle.mf_machine.specs.declared.answer.State.TheVariants as state
use Rattle.mf_machine.specs.declared.view.View.{View}
use Rattle.mf_machine.specs.File.{name_word}
use Rattle.mf_machine.specs.Steps as row
use Rattle.mf_machine.specs.Worlds.{counted, read}
use Rattle.mf_machine.proofs.Tells as tells
use Rattle.mf_places.specs.declared.Name.{Name}
use Rattle.mf_places.specs.declared.servers.Servers.{Servers}
use Rattle.mf_places.specs.Names.{count_of}
use Rattle.mf_places.specs.Numbers.{number_of}
use Rattle.mf_vault.specs.declared.answers.Entry.{Entry}
use Rattle.mf_vault.specs.Actor as call
use Rattle.mf_vault.specs.Answers.{IsReached, FairState}
use Rattle.mf_vault.specs.Licence.{erased}
use Rattle.mf_gate.specs.declared.gate.Pass.{Pass}
use Rattle.mf_gate.specs.declared.known.About.{About}
use Rattle.mf_gate.specs.Passes.{Steps, about, told, view, file}
use Rattle.mf_gate.specs.Table.{Met, facts_of, file_of}
use Rattle.mf_plain.proofs.Named.{sees_lost}
use Rattle.mf_shared.specs.declared.shared.Shared.{Shared}
use Rattle.mf_shared.specs.Parts.{IsMade}
use Rattle.mf_shared.specs.Shared.{actor_of}

-- a word of a name is 0, 1, 2, 3, or 4 and a line
word_cases : (P : ℕ → Type 0) → P 0 → P 1 → P 2 → P 3 → ((l : ℕ) → P (4 + l)) → (x : ℕ) → P x
word_cases P a b c d f x = dite (ℕ_discrete x 0) (λ e. subst P (sym e) a)
    (λ n0. dite (ℕ_discrete x 1) (λ e. subst P (sym e) b)
    (λ n1. dite (ℕ_discrete x 2) (λ e. subst P (sym e) c)
    (λ n2. dite (ℕ_discrete x 3) (λ e. subst P (sym e) d)
    (λ n3. let e : 4 + (x - 4) ≡ x = omega arith in subst P e (f (x - 4))))))

unborn_is : (x : ℕ) → state.Unborn ≡ row.see_answer x → x ≡ 0
unborn_is x e = word_cases (λ y. state.Unborn ≡ row.see_answer y → y ≡ 0) (λ e. refl)
    (λ e. absurd (let z : state.Unborn ≡ state.Here = e in cc))
    (λ e. absurd (let z : state.Unborn ≡ state.Here = e in cc))
    (λ e. absurd (let z : state.Unborn ≡ state.Here = e in cc))
    (λ l e. absurd (let z : state.Unborn ≡ state.Lost l = e ∙ sees_lost l in cc)) x e

lost_is : (l x : ℕ) → state.Lost l ≡ row.see_answer x → x ≡ 4 + l
lost_is l x e = word_cases (λ y. state.Lost l ≡ row.see_answer y → y ≡ 4 + l)
    (λ e. absurd (let z : state.Lost l ≡ state.Unborn = e in cc))
    (λ e. absurd (let z : state.Lost l ≡ state.Here = e in cc))
    (λ e. absurd (let z : state.Lost l ≡ state.Here = e in cc))
    (λ e. absurd (let z : state.Lost l ≡ state.Here = e in cc))
    (λ k e. ap (λ y. 4 + y) (let z : state.Lost l ≡ state.Lost k = e ∙ sees_lost k in let y : l ≡ k = cc in sym y)) x e

pub away_never : (s x : ℕ) → state.Away s ≡ row.see_answer x → ⊥
away_never s x e = word_cases (λ y. state.Away s ≡ row.see_answer y → ⊥)
    (λ e. let z : state.Away s ≡ state.Unborn = e in cc)
    (λ e. let z : state.Away s ≡ state.Here = e in cc)
    (λ e. let z : state.Away s ≡ state.Here = e in cc)
    (λ e. let z : state.Away s ≡ state.Here = e in cc)
    (λ k e. let z : state.Away s ≡ state.Lost k = e ∙ sees_lost k in cc) x e

see_sees : (a : State) (n i x : ℕ) (v : View) → erased (counted i x (row.see_view a n v)) ≡ row.see_view a n (erased v)
see_sees state.Unborn n i x v = refl
see_sees state.Here n i x v = refl
see_sees (state.Lost l) n i x v = refl
see_sees (state.Away t) n i x v = refl

module _ (s : Shared) (p : Pass) (es : List Entry) (cut : Servers) (y : Name) where
  abbrev k : About
  k = about s.gate

  abbrev n : ℕ
  n = number_of k.book y

  see_fair : (x : ℕ) (a : State) → n < count_of k.book → IsReached (actor_of s p es cut) y
      → Met k (view p) (name_word (file_of k) n) x → a ≡ row.see_answer x → FairState (actor_of s p es cut) y a
  see_fair x state.Unborn low reached m is = (
    reached,
    λ pin. tells.pinned_born (file_of k) (facts_of k).opening (read (file_of k) m.state) m.kept.holding.ruled m.id n
        (view p) m.at low pin (m.word ∙ unborn_is x is),
  )
  see_fair x state.Here low reached m is = reached
  see_fair x (state.Lost l) low reached m is = (
    reached,
    tells.lost_line (file_of k) (facts_of k).opening (read (file_of k) m.state) m.kept.holding.ruled n l low
        (m.word ∙ lost_is l x is),
  )
  see_fair x (state.Away t) low reached m is = absurd (away_never t x is)

  -- a see of the name with this number is a probe, but for its entry
  pub see_made : (p' : Pass) (m x : ℕ) (a : State) → told p ≡ k → m ≡ n → n < count_of k.book
      → IsReached (actor_of s p es cut) y → Steps (row.see_row (file p) m) x p p' → a ≡ row.see_answer x
      → IsMade (call.probe y a) (actor_of s p es cut) (actor_of s p' es cut)
  see_made p' m x a of same low reached step is = record {
    becomes = ap (λ (v : View). record (actor_of s p es cut) { view = v }) (ap erased step.becomes
        ∙ (ap (λ b. erased (counted (name_word (file p) m) x (row.see_view b m (view p)))) (sym is)
        ∙ (see_sees a m (name_word (file p) m) x (view p) ∙ ap (λ j. row.see_view a j (erased (view p))) same)));
    fair = see_fair x a low reached (subst (λ (z : About). Met z (view p) (name_word (file_of z) n) x) of
        (subst (λ j. Met (told p) (view p) (name_word (file p) j) x) same step.met)) is;
  }
