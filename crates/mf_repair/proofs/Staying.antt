-- What probes, gets and restores leave as it was.
use Rattle.std.proofs.Common.{◌≡◌, ℕ, ◌+◌, ◌<◌, List, [], ◌∷◌, ◌++◌, refl, sym, ap, ◌∙◌, subst, ⊎_elim, arith}
use Rattle.mf_decode.specs.declared.gathering.Gathered.{Gathered}
use Rattle.mf_decode.specs.declared.gathering.Gathered.TheVariants as gathered
use Rattle.mf_machine.specs.Actors.{on}
use Rattle.mf_machine.specs.declared.answer.State.{State}
use Rattle.mf_machine.specs.declared.answer.State.TheVariants.{Unborn, Here, Lost, Away}
use Rattle.mf_machine.proofs.Lists.{bit_is}
use Rattle.mf_places.specs.declared.Name.{Name}
use Rattle.mf_vault.specs.declared.answers.Got.{Got}
use Rattle.mf_vault.specs.declared.answers.Got.TheVariants as got
use Rattle.mf_vault.specs.Facts.{Facts, stages}
use Rattle.mf_vault.specs.Actor.{Actor, Call, probe, get, restore, did}
use Rattle.mf_vault.specs.Answers.{Goes}
use Rattle.mf_vault.specs.Licence.{Does, did_all}
use Rattle.mf_read.specs.Asking.{Ask, IsCut, gets, get_of}
use Rattle.mf_read.specs.Gathers.{Gathers}
use Rattle.mf_read.specs.Groups.{IsReader}
use Rattle.mf_repair.specs.Mending.{IsMender, HasStripe, Stays}

pub stays_nothing : (a : Actor) → Stays a a
stays_nothing a = record { facts = refl; right = refl; hold = refl; work = refl; cut = refl }

pub stays_same : {a b : Actor} → b ≡ a → Stays a b
stays_same {a = a} e = subst (λ (z : Actor). Stays a z) (sym e) (stays_nothing a)

pub stays_then : {a b c : Actor} → Stays a b → Stays b c → Stays a c
stays_then x y = record {
  facts = y.facts ∙ x.facts;
  right = y.right ∙ x.right;
  hold = y.hold ∙ x.hold;
  work = y.work ∙ x.work;
  cut = y.cut ∙ x.cut;
}

stays_probe : (x : Name) (s : State) (a : Actor) → Stays a (did (probe x s) a)
stays_probe x Unborn a = record { facts = refl; right = refl; hold = refl; work = refl; cut = refl }
stays_probe x Here a = record { facts = refl; right = refl; hold = refl; work = refl; cut = refl }
stays_probe x (Lost l) a = record { facts = refl; right = refl; hold = refl; work = refl; cut = refl }
stays_probe x (Away s) a = record { facts = refl; right = refl; hold = refl; work = refl; cut = refl }

stays_get : (x : Name) (o : Got) (a : Actor) → Stays a (did (get x o) a)
stays_get x (got.Here c) a = record { facts = refl; right = refl; hold = refl; work = refl; cut = refl }
stays_get x (got.Lost l) a = record { facts = refl; right = refl; hold = refl; work = refl; cut = refl }
stays_get x (got.Away s) a = record { facts = refl; right = refl; hold = refl; work = refl; cut = refl }
stays_get x got.Memory a = record { facts = refl; right = refl; hold = refl; work = refl; cut = refl }

pub stays_probed : {x : Name} {s : State} {a b : Actor} → Goes (probe x s) a b → Stays a b
stays_probed {x = x} {s = s} {a = a} g = subst (λ (z : Actor). Stays a z) (sym g.becomes) (stays_probe x s a)

pub stays_restored : {x : Name} {a b : Actor} → Goes (restore x) a b → Stays a b
stays_restored {a = a} g = subst (λ (z : Actor). Stays a z) (sym g.becomes)
    (record { facts = refl; right = refl; hold = refl; work = refl; cut = refl })

gets_stay : (f : Facts) (asks : List Ask) (a : Actor) → Stays a (did_all (gets f asks) a)
gets_stay f [] a = stays_nothing a
gets_stay f (x ∷ asks) a = stays_then (stays_get x.name _ a) (gets_stay f asks (did (get_of f x) a))

pub stays_asked : (f : Facts) (asks : List Ask) {a b : Actor} → Does (gets f asks) a b → Stays a b
stays_asked f asks {a = a} d = subst (λ (z : Actor). Stays a z) (sym d.becomes) (gets_stay f asks a)

more_stays : (f : Facts) (asks : List Ask) (x : Name) (a : Actor) → Stays a (did_all
    (gets f asks ++ get x got.Memory ∷ []) a)
more_stays f [] x a = stays_get x got.Memory a
more_stays f (y ∷ asks) x a = stays_then (stays_get y.name _ a) (more_stays f asks x (did (get_of f y) a))

stays_cut : (f : Facts) (g j : ℕ) (calls : List Call) {a b : Actor} → IsCut f g j calls → Does calls a b → Stays a b
stays_cut f g j calls {a = a} {b = b} (asks, rest, asking, how) d = ⊎_elim
    (λ e. stays_asked f asks (subst (λ (l : List Call). Does l a b) e d))
    (λ (x, others, is, e). subst (λ (z : Actor). Stays a z) (sym (d.becomes ∙ ap (λ (l : List Call). did_all l a) e))
    (more_stays f asks x a))
    how

pub stays_gathered : (g j : ℕ) (r : Gathered) {a b : Actor} → Gathers g j r a b → Stays a b
stays_gathered g j (gathered.All chunks) {a = a} (asks, served, d, same) = stays_asked a.facts asks d
stays_gathered g j gathered.Short {a = a} (asks, short, d) = stays_asked a.facts asks d
stays_gathered g j gathered.Memory {a = a} (calls, cut, d) = stays_cut a.facts g j calls cut d

-- a mender stays one
pub mender_stays : {g : ℕ} {a b : Actor} → IsMender g a → Stays a b → IsMender g b
mender_stays {g = g} m s = record {
  stage = subst (λ (f : Facts). g < stages f) (sym s.facts) m.stage;
  right = s.right ∙ m.right;
  work = s.work ∙ m.work;
}

pub has_stays : {g j : ℕ} {a b : Actor} → HasStripe g j a.facts.book → Stays a b → HasStripe g j b.facts.book
has_stays {g = g} {j = j} h s = subst (λ (f : Facts). HasStripe g j f.book) (sym s.facts) h

-- and may ask for a stripe
pub reader : {g j : ℕ} {a : Actor} → IsMender g a → HasStripe g j a.facts.book → IsReader g j a
reader {g = g} {a = a} m h = record {
  stage = h.stage;
  pinned = let one = bit_is a.view.work (g + 1) m.work in omega arith;
  stripe = h.stripe;
}
