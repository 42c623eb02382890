-- What probes, gets, puts and restores leave in the view of a converter.
use Rattle.std.proofs.Common.{◌≡◌, ◌≢◌, ℕ, ◌+◌, ◌<◌, Bool, true, false, List, [], ◌∷◌, refl, sym}
use Rattle.std.proofs.Common.{subst, arith, ◌⊎◌, inl, inr}
use Rattle.mf_machine.specs.declared.answer.State.{State}
use Rattle.mf_machine.specs.declared.answer.State.TheVariants.{Unborn, Here, Lost, Away}
use Rattle.mf_machine.specs.Actors.{Among}
use Rattle.mf_machine.proofs.Lists.{bit_is}
use Rattle.mf_places.specs.declared.Name.{Name}
use Rattle.mf_places.specs.declared.servers.Servers.{Servers}
use Rattle.mf_places.specs.Generations.{holds}
use Rattle.mf_places.specs.Servers.{IsIn}
use Rattle.mf_vault.specs.declared.answers.Got.TheVariants as got
use Rattle.mf_vault.specs.Facts.{Facts, number, server, stages, cell_of}
use Rattle.mf_vault.specs.Actor.{Actor, Call, did}
use Rattle.mf_vault.specs.Actor as call
use Rattle.mf_vault.specs.Answers.{Goes, IsReached}
use Rattle.mf_vault.specs.Licence.{did_all, IsFile}
use Rattle.mf_vault.specs.May.{MayPut, MayRestore, MayProbe, MayGet}
use Rattle.mf_vault.proofs.Held.{may_probe_next, may_put_next, may_restore_next, may_get_work, work_holds}
use Rattle.mf_convert.specs.Create.{bring}
use Rattle.mf_convert.specs.Convert.{gets, GoesOn}
use Rattle.mf_convert.specs.Converting.{IsConverter, IsFound}
use Rattle.mf_convert.proofs.Bringing.{brought}
use Rattle.mf_convert.proofs.Next.{has_name}

-- what was among the answers of name number m still is
pub record Keeps (m : ℕ) (a b : Actor) : Type 0 where
  pub unborn : Among m a.view.build.unborn → Among m b.view.build.unborn
  pub lost : Among m a.view.build.lost → Among m b.view.build.lost
  pub settled : Among m a.view.build.settled → Among m b.view.build.settled

pub keeps_same : (m : ℕ) (a : Actor) → Keeps m a a
keeps_same m a = record { unborn = λ h. h; lost = λ h. h; settled = λ h. h }

pub keeps_on : {m : ℕ} {a b c : Actor} → Keeps m a b → Keeps m b c → Keeps m a c
keeps_on x y = record {
  unborn = λ h. y.unborn (x.unborn h);
  lost = λ h. y.lost (x.lost h);
  settled = λ h. y.settled (x.settled h);
}

pub probe_keeps : (m : ℕ) (x : Name) (s : State) (a : Actor) → Keeps m a (did (call.probe x s) a)
probe_keeps m x Unborn a = record { unborn = λ h. omega arith; lost = λ h. h; settled = λ h. h }
probe_keeps m x Here a = record { unborn = λ h. h; lost = λ h. h; settled = λ h. omega arith }
probe_keeps m x (Lost l) a = record { unborn = λ h. h; lost = λ h. omega arith; settled = λ h. omega arith }
probe_keeps m x (Away y) a = record { unborn = λ h. h; lost = λ h. h; settled = λ h. h }

get_keeps : (m : ℕ) (x : Name) (c : List ℕ) (a : Actor) → Keeps m a (did (call.get x (got.Here c)) a)
get_keeps m x c a = record { unborn = λ h. h; lost = λ h. h; settled = λ h. omega arith }

pub gets_keep : (m : ℕ) (f : Facts) (xs : List Name) (a : Actor) → Keeps m a (did_all (gets f xs) a)
gets_keep m f [] a = keeps_same m a
gets_keep m f (x ∷ xs) a = keeps_on (get_keeps m x (cell_of f x) a)
    (gets_keep m f xs (did (call.get x (got.Here (cell_of f x))) a))

-- those of another name stay over a put or restore, and what is settled stays settled
pub bring_keeps : (m : ℕ) (x : Name) (s : State) (a : Actor) → m ≢ number a.facts x → Keeps m a (did_all (bring x s) a)
bring_keeps m x s a ne = let b = brought m x s a in record {
  unborn = b.unborn ne;
  lost = b.lost ne;
  settled = b.settled;
}

-- a name is reached as long as the same servers are cut off
pub reached_stays : (a b : Actor) (x : Name) → b.facts ≡ a.facts → b.cut ≡ a.cut → IsReached a x → IsReached b x
reached_stays a b x e c r =
    subst (λ (f : Facts). IsIn b.cut (server f x) → ⊥) (sym e) (subst (λ (s : Servers). IsIn s (server a.facts x)
    → ⊥) (sym c) r)

-- what is known of a name stays
pub found_stays : (g : ℕ) {a b : Actor} (x : Name) (s : State) → b.facts ≡ a.facts → b.cut ≡ a.cut
    → Keeps (number a.facts x) a b → IsFound g a x s → IsFound g b x s
found_stays g {a = a} {b = b} x Unborn e c k h = (
  subst (λ (f : Facts). holds f.book g x ≡ false) (sym e) h.0,
  subst (λ (f : Facts). Among (number f x) b.view.build.unborn) (sym e) (k.unborn h.1),
  reached_stays a b x e c h.2,
)
found_stays g {b = b} x Here e c k h = subst (λ (f : Facts). Among (number f x) b.view.build.settled) (sym e)
    (k.settled h)
found_stays g {a = a} {b = b} x (Lost l) e c k h = (
  subst (λ (f : Facts). holds f.book g x ≡ false) (sym e) h.0,
  subst (λ (f : Facts). Among (number f x) b.view.build.lost) (sym e) (k.lost h.1),
  subst (λ (f : Facts). Among (number f x) b.view.build.settled) (sym e) (k.settled h.2),
  reached_stays a b x e c h.3,
)
found_stays g x (Away y) e c k h = h

-- what a probe leaves
found_by : (g : ℕ) (x : Name) (s : State) (a : Actor) → GoesOn a.facts.book g x s
    → Rattle.mf_vault.specs.Answers.FairState a x s → IsFound g (did (call.probe x s) a) x s
found_by g x Unborn a on fair = (on, (let b = bit_is (number a.facts x) (number a.facts x) refl in omega arith), fair.0)
found_by g x Here a on fair = let b = bit_is (number a.facts x) (number a.facts x) refl in omega arith
found_by g x (Lost l) a on fair = let b = bit_is (number a.facts x) (number a.facts x) refl in
    (on, (omega arith), (omega arith), fair.0)
found_by g x (Away y) a on fair = on

pub found_here : (g : ℕ) {x : Name} {s : State} {a b : Actor} → Goes (call.probe x s) a b → GoesOn a.facts.book g x s
    → IsFound g b x s
found_here g {x = x} {s = s} {a = a} go on = subst (λ (z : Actor). IsFound g z x s) (sym go.becomes)
    (found_by g x s a on go.fair)

-- where the calls on a name may happen
pub may_probe : {g : ℕ} (x : Name) {a : Actor} → IsConverter g a → IsFile a.facts → holds a.facts.book (g + 1) x ≡ true
    → MayProbe x a
may_probe {g = g} x {a = a} k file h = may_probe_next a (g + 1) x k.building k.low
    (has_name a.facts (g + 1) x file k.low h) h

pub may_put : {g : ℕ} (x : Name) {s : State} {a : Actor} → IsConverter g a → IsFile a.facts
    → holds a.facts.book (g + 1) x ≡ true → s ≡ Unborn → IsFound g a x s → MayPut x a
may_put {g = g} x {a = a} k file h e found =
    let y = subst (λ t. IsFound g a x t) e found in
    may_put_next a (g + 1) x k.building k.low (has_name a.facts (g + 1) x file k.low h) h y.1 y.2

pub may_restore : {g : ℕ} (x : Name) {s : State} (l : ℕ) {a : Actor} → IsConverter g a → IsFile a.facts
    → holds a.facts.book (g + 1) x ≡ true → s ≡ Lost l → IsFound g a x s → MayRestore x a
may_restore {g = g} x l {a = a} k file h e found =
    let y = subst (λ t. IsFound g a x t) e found in
    may_restore_next a (g + 1) x k.building k.low (has_name a.facts (g + 1) x file k.low h) h y.1 y.3

low_before : (g q : ℕ) → g + 1 < q → g < q
low_before g q h = omega arith

pub may_get : {g : ℕ} (x : Name) {a : Actor} → IsConverter g a → IsFile a.facts → holds a.facts.book g x ≡ true
    → MayGet x a
may_get {g = g} x {a = a} k file h =
    may_get_work a g x k.work (low_before g (stages a.facts) k.low)
    (has_name a.facts g x file (low_before g (stages a.facts) k.low) h) h

-- a name that was found Unborn isn't held by the pinned generation
not_pinned : (g : ℕ) (x : Name) (a : Actor) (t : Bool) → holds a.facts.book g x ≡ t → IsConverter g a → IsFile a.facts
    → (Rattle.mf_machine.specs.Actors.PinHolds (Rattle.mf_vault.specs.Facts.file a.facts) a.view.hold a.view.work
    (number a.facts x) → ⊥)
    → holds a.facts.book g x ≡ false
not_pinned g x a false e k file none = e
not_pinned g x a true e k file none =
    let low = low_before g (stages a.facts) k.low in
    absurd (none (work_holds a.facts a.view g x k.work low (has_name a.facts g x file low e) e))

pub unborn_on : {g : ℕ} {x : Name} {s : State} {a b : Actor} → IsConverter g a → IsFile a.facts
    → Goes (call.probe x s) a b → (s ≡ Unborn) ⊎ (s ≡ Here) → GoesOn a.facts.book g x s
unborn_on {g = g} {x = x} {a = a} k file go (inr e) = subst (λ t. GoesOn a.facts.book g x t) (sym e) tt
unborn_on {g = g} {x = x} {s = s} {a = a} k file go (inl e) = subst (λ t. GoesOn a.facts.book g x t) (sym e)
    (not_pinned g x a (holds a.facts.book g x) refl k file
    (subst (λ t. Rattle.mf_vault.specs.Answers.FairState a x t) e go.fair).1)
