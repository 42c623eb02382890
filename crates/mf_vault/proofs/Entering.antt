-- The begin and the pin of the Work slot with which an engine starts.
use Rattle.std.proofs.Common.{◌≡◌, ℕ, ◌+◌, ◌<◌, ◌≤◌, true, List, [], ◌∷◌, refl, sym, ap, ◌∙◌, subst, arith}
use Rattle.mf_machine.specs.declared.view.View.{View}
use Rattle.mf_machine.specs.declared.answer.Slot.{Slot}
use Rattle.mf_machine.specs.declared.answer.Slot.TheVariants.{Hold, Work}
use Rattle.mf_machine.specs.Steps as row
use Rattle.mf_vault.specs.declared.answers.Pinned.{Pinned}
use Rattle.mf_vault.specs.declared.answers.Pinned.TheVariants.{At, Absent, Removed}
use Rattle.mf_vault.specs.Facts.{Facts, stages}
use Rattle.mf_vault.specs.Actor.{Actor, begin, pin, tried}
use Rattle.mf_vault.specs.Answers.{Goes, IsPin, LooksRise}
use Rattle.mf_vault.specs.Licence.{Entered, IsBuilding, number_of_pin, work_of_pin}
use Rattle.mf_vault.proofs.Doing.{one, then}

-- a pin's answer is as that of one which missed nothing: its number isn't below what was seen before
is_from : (f : Facts) (p : Pinned) (v u : View) → v.seen.number ≤ u.seen.number → IsPin f p u → IsPin f p v
is_from f (At g) v u l i = (i.0, (let h = i.1 in omega arith))
is_from f Absent v u l i = omega arith
is_from f Removed v u l i = omega arith

pub pin_is : (f : Facts) (gs : List ℕ) (p : Pinned) (v : View) → LooksRise f gs p v → IsPin f p v
pin_is f [] p v i = i
pin_is f (g ∷ gs) p v i = let u = row.missed g (row.looked (g + 1) v) in
    is_from f p v u i.1 (pin_is f gs p u i.2)

-- what a pin leaves of a view
pub tried_right : (f : Facts) (slot : Slot) (gs : List ℕ) (p : Pinned) (v : View)
    → (tried f slot gs p v).build.right ≡ v.build.right
tried_right f Hold [] (At g) v = refl
tried_right f Work [] (At g) v = refl
tried_right f slot [] Absent v = refl
tried_right f slot [] Removed v = refl
tried_right f slot (g ∷ gs) p v = tried_right f slot gs p (row.missed g (row.looked (g + 1) v))

pub tried_hold : (f : Facts) (gs : List ℕ) (p : Pinned) (v : View) → (tried f Work gs p v).hold ≡ v.hold
tried_hold f [] (At g) v = refl
tried_hold f [] Absent v = refl
tried_hold f [] Removed v = refl
tried_hold f (g ∷ gs) p v = tried_hold f gs p (row.missed g (row.looked (g + 1) v))

pub tried_work : (f : Facts) (gs : List ℕ) (p : Pinned) (v : View) → (tried f Work gs p v).work ≡ work_of_pin p v.work
tried_work f [] (At g) v = refl
tried_work f [] Absent v = refl
tried_work f [] Removed v = refl
tried_work f (g ∷ gs) p v = tried_work f gs p (row.missed g (row.looked (g + 1) v))

-- the number that it looked at last
pub tried_number : (f : Facts) (slot : Slot) (gs : List ℕ) (p : Pinned) (v : View)
    → (tried f slot gs p v).seen.number ≡ number_of_pin f p
tried_number f Hold [] (At g) v = refl
tried_number f Work [] (At g) v = refl
tried_number f slot [] Absent v = refl
tried_number f slot [] Removed v = refl
tried_number f slot (g ∷ gs) p v = tried_number f slot gs p (row.missed g (row.looked (g + 1) v))

pub tried_last : (f : Facts) (slot : Slot) (gs : List ℕ) (p : Pinned) (v : View)
    → (tried f slot gs p v).last ≡ number_of_pin f p + 1
tried_last f Hold [] (At g) v = refl
tried_last f Work [] (At g) v = refl
tried_last f slot [] Absent v = refl
tried_last f slot [] Removed v = refl
tried_last f slot (g ∷ gs) p v = tried_last f slot gs p (row.missed g (row.looked (g + 1) v))

pub tried_looked : (f : Facts) (slot : Slot) (gs : List ℕ) (p : Pinned) (v : View)
    → (tried f slot gs p v).build.looked ≡ v.build.right
tried_looked f Hold [] (At g) v = refl
tried_looked f Work [] (At g) v = refl
tried_looked f slot [] Absent v = refl
tried_looked f slot [] Removed v = refl
tried_looked f slot (g ∷ gs) p v = tried_looked f slot gs p (row.missed g (row.looked (g + 1) v))

-- with the right, a pin leaves a builder
pub building : {slot : Slot} {gs : List ℕ} {p : Pinned} {b c : Actor} → Goes (pin slot gs p) b c
    → b.view.build.right ≡ 1
    → IsBuilding c (number_of_pin c.facts p)
building {slot = slot} {gs = gs} {p = p} {b = b} g r =
    subst (λ (z : Actor). IsBuilding z (number_of_pin z.facts p)) (sym g.becomes) record {
      right = tried_right b.facts slot gs p b.view ∙ r;
      looked = tried_looked b.facts slot gs p b.view ∙ r;
      last = tried_last b.facts slot gs p b.view;
      seen = tried_number b.facts slot gs p b.view;
    }

pub pinned_at : {gs : List ℕ} {g : ℕ} {b c : Actor} → Goes (pin Work gs (At g)) b c → (c.view.work ≡ g + 1)
    × (g < stages c.facts)
pinned_at {gs = gs} {g = g} {b = b} x =
    subst (λ (z : Actor). (z.view.work ≡ g + 1) × (g < stages z.facts)) (sym x.becomes)
    (tried_work b.facts gs (At g) b.view, (pin_is b.facts gs (At g) b.view x.fair).0)

-- the begin and the pin together
pub entered : {p : Pinned} {a b c : Actor} → Goes (begin true) a b → ((gs : List ℕ) × Goes (pin Work gs p) b c)
    → Entered p a c
entered {p = p} {a = a} {b = b} {c = c} x (gs, y) = record {
  missed = gs;
  does = then (one x) (one y);
  building = building y (ap (λ (z : Actor). z.view.build.right) x.becomes);
  work = ap (λ (z : Actor). z.view.work) y.becomes
      ∙ (tried_work b.facts gs p b.view ∙ ap (λ (z : Actor). work_of_pin p z.view.work) x.becomes);
  hold = ap (λ (z : Actor). z.view.hold) y.becomes
      ∙ (tried_hold b.facts gs p b.view ∙ ap (λ (z : Actor). z.view.hold) x.becomes);
  facts = ap (λ (z : Actor). z.facts) y.becomes ∙ ap (λ (z : Actor). z.facts) x.becomes;
  cut = ap (λ (z : Actor). z.cut) y.becomes ∙ ap (λ (z : Actor). z.cut) x.becomes;
  range = subst (λ (z : Actor). IsPin z.facts p z.view) x.becomes (pin_is b.facts gs p b.view y.fair);
}
