-- An actor that may ask, and goes on to.
use Rattle.std.proofs.Common.{◌≡◌, ℕ, ◌<◌, true, List, [], ◌∷◌, length, IsTrue, refl, sym, ap, ◌∙◌, subst}
use Rattle.std.proofs.Common.{rules}
use Rattle.mf_machine.specs.Actors.{on}
use Rattle.mf_places.specs.Names.{stripes_of}
use Rattle.mf_shape.specs.Stages.{width_at}
use Rattle.mf_places.specs.declared.Name.{Name}
use Rattle.mf_places.specs.Generations.{holds}
use Rattle.mf_places.proofs.Held.{Holds, holds-from, HasName-from_holds}
use Rattle.mf_vault.specs.Facts.{Facts}
use Rattle.mf_vault.specs.Actor.{Actor, did}
use Rattle.mf_vault.specs.Licence.{Does, did_all, IsKept}
use Rattle.mf_vault.specs.May.{MayGet}
use Rattle.mf_vault.proofs.Held.{holds_is}
use Rattle.mf_vault.proofs.Doing.{facts_stay}
use Rattle.mf_read.specs.Asking.{Found, Ask, here, lost, away, get_of, gets}
use Rattle.mf_read.specs.Groups.{IsReader}

is_true : (f : Facts) (g : ℕ) (x : Name) → IsTrue (holds f.book g x) → holds f.book g x ≡ true
is_true f g x h = search rules

-- a name that the generation holds may be asked for
pub may_ask : (g j : ℕ) (x : Name) (a : Actor) → IsReader g j a → IsKept a → Holds a.facts.book g x → MayGet x a
may_ask g j x a r kept h =
    let had = HasName-from_holds a.facts.book kept.file.layout.shape.chain g r.stage x h in
    (had, (g, r.stage, r.pinned, holds_is a.facts g x had (is_true a.facts g x (holds-from a.facts.book g x h))))

-- a get leaves the pins
one_hold : (f : Facts) (x : Name) (r : Found) (a : Actor)
    → (did (get_of f (record { name = x; found = r })) a).view.hold ≡ a.view.hold
one_hold f x here a = refl
one_hold f x (lost l) a = refl
one_hold f x (away s) a = refl

one_work : (f : Facts) (x : Name) (r : Found) (a : Actor)
    → (did (get_of f (record { name = x; found = r })) a).view.work ≡ a.view.work
one_work f x here a = refl
one_work f x (lost l) a = refl
one_work f x (away s) a = refl

hold_all : (f : Facts) (asks : List Ask) (a : Actor) → (did_all (gets f asks) a).view.hold ≡ a.view.hold
hold_all f [] a = refl
hold_all f (x ∷ asks) a = hold_all f asks (did (get_of f x) a) ∙ one_hold f x.name x.found a

pub work_all : (f : Facts) (asks : List Ask) (a : Actor) → (did_all (gets f asks) a).view.work ≡ a.view.work
work_all f [] a = refl
work_all f (x ∷ asks) a = work_all f asks (did (get_of f x) a) ∙ one_work f x.name x.found a

pub hold_stays : (f : Facts) (asks : List Ask) {a b : Actor} → Does (gets f asks) a b → b.view.hold ≡ a.view.hold
hold_stays f asks {a = a} x = ap (λ (z : Actor). z.view.hold) x.becomes ∙ hold_all f asks a

pub work_stays : (f : Facts) (asks : List Ask) {a b : Actor} → Does (gets f asks) a b → b.view.work ≡ a.view.work
work_stays f asks {a = a} x = ap (λ (z : Actor). z.view.work) x.becomes ∙ work_all f asks a

pub reader_stays : (f : Facts) (asks : List Ask) (g j : ℕ) {a b : Actor} → Does (gets f asks) a b → IsReader g j a
    → IsReader g j b
reader_stays f asks g j {a = a} {b = b} x r = record {
  stage = subst (λ (k : Facts). g < length k.book.shape.stages) (sym (facts_stay x)) r.stage;
  pinned = subst (λ (n : ℕ). 0 < on g n b.view.work) (sym (hold_stays f asks x)) (subst (λ
      (n : ℕ). 0 < on g a.view.hold n) (sym (work_stays f asks x)) r.pinned);
  stripe = subst (λ (k : Facts). j < stripes_of k.book (width_at k.book.shape.stages g)) (sym (facts_stay x)) r.stripe;
}
