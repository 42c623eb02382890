-- Pins that fall on closed generations, in turn.
use Rattle.std.proofs.Common.{◌≡◌, ℕ, ◌+◌, ◌-◌, ◌<◌, ◌≤◌, false, List, [], ◌∷◌, ◌++◌}
use Rattle.std.proofs.Common.{None, refl, sym, subst, ap, ◌∙◌, arith, length}
use mathlib.Core.Logic.{dite}
use native.Mathlib.Decide.{ℕ_discrete}
use Rattle.mf_machine.specs.declared.answer.Slot.{Slot}
use Rattle.mf_machine.specs.declared.answer.Slot.TheVariants.{Hold, Work}
use Rattle.mf_machine.specs.declared.view.View.{View}
use Rattle.mf_machine.specs.Actors.{SawShut, slot_of}
use Rattle.mf_machine.specs.Counts.{times}
use Rattle.mf_machine.specs.Steps as row
use Rattle.mf_machine.specs.Steps.{looked, missed}
use Rattle.mf_machine.specs.Words.{number_of}
use Rattle.mf_machine.specs.Worlds.{counted}
use Rattle.mf_machine.proofs.Lists.{times_here}
use Rattle.mf_places.specs.declared.servers.Servers.{Servers}
use Rattle.mf_vault.specs.declared.answers.Entry.{Entry}
use Rattle.mf_vault.specs.declared.answers.Pinned.{Pinned}
use Rattle.mf_vault.specs.declared.answers.Pinned.TheVariants.{At, Absent, Removed}
use Rattle.mf_vault.specs.Actor.{Actor, tried, pinned}
use Rattle.mf_vault.specs.Actor as call
use Rattle.mf_vault.specs.Answers.{Goes, IsPin, LooksRise}
use Rattle.mf_vault.specs.Facts.{Facts, stages}
use Rattle.mf_vault.specs.Licence.{erased}
use Rattle.mf_gate.specs.declared.gate.Pass.{Pass}
use Rattle.mf_gate.specs.declared.known.About.{About}
use Rattle.mf_gate.specs.Passes.{Steps, about, told, view}
use Rattle.mf_shared.specs.declared.shared.Shared.{Shared}
use Rattle.mf_shared.specs.Parts.{Misses}
use Rattle.mf_shared.specs.Shared.{actor_of}

-- a look and a pin that fell on a closed generation
miss_sees : (slot : Slot) (g i x : ℕ) (v : View)
    → erased (counted i x (row.pin_view false slot g v)) ≡ missed g (erased v)
miss_sees slot g i x v = refl

pub misses : (s : Shared) (p p₁ p₂ : Pass) (es : List Entry) (cut : Servers) (slot : Slot) (g r x : ℕ)
    → told p ≡ about s.gate → r ≡ number_of g → r ≤ length (about s.gate).book.shape.stages → (view p).seen.number ≤ r
    → ((h : ℕ) → h < length (told p).book.shape.stages → SawShut h (view p) → number_of h < r)
    → Steps row.look_row r p p₁ → Steps (row.pin_row slot g) x p₁ p₂ → row.pin_answer x ≡ false
    → Misses g (actor_of s p es cut) (actor_of s p₂ es cut)
misses s p p₁ p₂ es cut slot g r x of is top low beyond look pin shut = record {
  becomes = ap (λ (v : View). record (actor_of s p es cut) { view = v }) (ap erased pin.becomes
      ∙ (ap (λ b. erased (counted (g + 2) x (row.pin_view b slot g (view p₁)))) shut
      ∙ (ap (λ (v : View). missed g (erased v)) look.becomes
      ∙ ap (λ j. missed g (looked j (erased (view p)))) is)));
  stage = omega arith;
  grows = omega arith;
  beyond = λ h l seen. let e = ap (λ (k : About). length k.book.shape.stages) of in
      let b = beyond h (omega arith) seen in omega arith;
}

-- ---- turn by turn

-- the view after pins that fell on these generations
abbrev pub missed_all : List ℕ → View → View
missed_all [] v = v
missed_all (g ∷ gs) v = missed_all gs (missed g (looked (number_of g) v))

missed_more : (g : ℕ) (gs : List ℕ) (v : View)
    → missed_all (gs ++ g ∷ []) v ≡ missed g (looked (number_of g) (missed_all gs v))
missed_more g [] v = refl
missed_more g (h ∷ gs) v = missed_more g gs (missed h (looked (number_of h) v))

-- the numbers of these generations never fall, from what was seen on
abbrev Rises : Facts → List ℕ → View → Type 0
Rises f [] v = Unit {0}
Rises f (g ∷ gs) v = (g < stages f) × (v.seen.number ≤ number_of g) × Rises f gs (missed g (looked (number_of g) v))

rises_more : (f : Facts) (g : ℕ) (gs : List ℕ) (v : View) → Rises f gs v → g < stages f
    → (missed_all gs v).seen.number ≤ number_of g → Rises f (gs ++ g ∷ []) v
rises_more f g [] v r low up = (low, up, tt)
rises_more f g (h ∷ gs) v r low up = (r.0, r.1, rises_more f g gs (missed h (looked (number_of h) v)) r.2 low up)

rises_to : (f : Facts) (gs : List ℕ) (p : Pinned) (v : View) → Rises f gs v → IsPin f p (missed_all gs v)
    → LooksRise f gs p v
rises_to f [] p v r i = i
rises_to f (g ∷ gs) p v r i = (r.0, r.1, rises_to f gs p (missed g (looked (number_of g) v)) r.2 i)

tried_all : (f : Facts) (slot : Slot) (gs : List ℕ) (p : Pinned) (v : View)
    → tried f slot gs p v ≡ pinned f slot p (missed_all gs v)
tried_all f slot [] p v = refl
tried_all f slot (g ∷ gs) p v = tried_all f slot gs p (missed g (looked (number_of g) v))

place_stays : (slot : Slot) (g : ℕ) (v : View) → slot_of slot (missed g (looked (number_of g) v)) ≡ slot_of slot v
place_stays Hold g v = refl
place_stays Work g v = refl

-- so many turns led from the one actor to the other, and each fell on a closed generation. The number that was seen
-- grew with each of them
pub record Turned (n : ℕ) (a b : Actor) : Type 0 where
  pub gs : List ℕ
  pub becomes : b ≡ record a { view = missed_all gs a.view }
  pub rises : Rises a.facts gs a.view
  pub places : (slot : Slot) → slot_of slot b.view ≡ slot_of slot a.view
  pub rose : 0 < n → (n ≤ b.view.seen.number) × (b.view.seen.number ≤ stages a.facts)
      × SawShut (b.view.seen.number - 1) b.view

pub turned_none : (a : Actor) → Turned 0 a a
turned_none a = record {
  gs = [];
  becomes = refl;
  rises = tt;
  places = λ slot. refl;
  rose = λ l. absurd (omega arith);
}

pub turned_more : (n g : ℕ) (a b c : Actor) → Turned n a b → Misses g b c → Turned (n + 1) a c
turned_more n g a b c t m = let f = ap (λ (z : Actor). stages z.facts) t.becomes in
    let number : c.view.seen.number ≡ g + 1 = ap (λ (z : Actor). z.view.seen.number) m.becomes in
    let stage = m.stage in let grows = m.grows in record {
      gs = t.gs ++ g ∷ [];
      becomes = m.becomes ∙ (ap (λ (z : Actor). record z { view = missed g (looked (number_of g) z.view) }) t.becomes
          ∙ ap (λ (v : View). record a { view = v }) (sym (missed_more g t.gs a.view)));
      rises = rises_more a.facts g t.gs a.view t.rises (omega arith)
          (subst (λ (z : Actor). z.view.seen.number ≤ number_of g) t.becomes grows);
      places = λ slot. ap (λ (z : Actor). slot_of slot z.view) m.becomes
          ∙ (place_stays slot g b.view ∙ t.places slot);
      rose = λ _. (
        dite (ℕ_discrete n 0) (λ z. omega arith)
            (λ some. let r = t.rose (omega arith) in let low = r.0 in let top = r.1 in
            let beyond = m.beyond (b.view.seen.number - 1) (omega arith) r.2 in omega arith),
        omega arith,
        subst (λ (z : Actor). 0 < times (z.view.seen.number - 1) z.view.seen.shut) (sym m.becomes)
            (let e : g + 1 - 1 ≡ g = omega arith in
            subst (λ j. 0 < times j (g ∷ b.view.seen.shut)) (sym e)
            (let h = times_here g b.view.seen.shut in omega arith)),
      );
    }

-- more turns than generations can't be
pub turned_few : (n : ℕ) (a b : Actor) → Turned n a b → n ≤ stages a.facts
turned_few n a b t = dite (ℕ_discrete n 0) (λ z. omega arith)
    (λ some. let r = t.rose (omega arith) in let low = r.0 in let top = r.1 in omega arith)

-- a pin that is answered then ends the call
pub turned_ends : (n : ℕ) (slot : Slot) (p : Pinned) (a b c : Actor) → a.whole ≡ None → Turned n a b
    → Goes (call.pin slot [] p) b c → (gs : List ℕ) × Goes (call.pin slot gs p) a c
turned_ends n slot p a b c alone t g = (
  t.gs,
  record {
    becomes = g.becomes ∙ (ap (call.did (call.pin slot [] p)) t.becomes
        ∙ ap (λ (v : View). record (call.did (call.pin slot [] p) a) { view = v })
        (sym (tried_all a.facts slot t.gs p a.view)));
    fair = rises_to a.facts t.gs p a.view t.rises (subst (λ (z : Actor). IsPin z.facts p z.view) t.becomes g.fair);
    told = rw alone tt;
  },
)
