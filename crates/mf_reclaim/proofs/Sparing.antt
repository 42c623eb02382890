-- A reclaim discards no name of the generation that its own client holds.
use Rattle.std.proofs.Common.{◌≡◌, ℕ, zero, suc, ◌+◌, ◌<◌, Bool, true, false, cond, List, [], ◌∷◌, ◌++◌, length, filter}
use Rattle.std.proofs.Common.{get_or, refl, sym, ap, ◌∙◌, subst, arith}
use Rattle.std.proofs.lemmas.Bool.{false≢true}
use Rattle.mf_machine.specs.declared.answer.Closed.{Closed}
use Rattle.mf_machine.specs.declared.answer.Closed.TheVariants as closed
use Rattle.mf_machine.specs.declared.answer.Slot.TheVariants.{Work}
use Rattle.mf_machine.proofs.Lists.{bit_is}
use Rattle.mf_places.specs.declared.Name.{Name}
use Rattle.mf_places.specs.Facts.{BookFacts}
use Rattle.mf_places.specs.Generations.{holds}
use Rattle.mf_places.specs.Names.{all_names}
use Rattle.mf_vault.specs.declared.answers.Pinned.TheVariants as pinned
use Rattle.mf_vault.specs.Facts.{Facts, stages}
use Rattle.mf_vault.specs.Actor.{Actor, Call, close, did}
use Rattle.mf_vault.specs.Licence.{AreFair}
use Rattle.mf_vault.proofs.Entering.{tried_hold}
use Rattle.mf_reclaim.specs.declared.outcome.ReclaimOutcome.{ReclaimOutcome}
use Rattle.mf_reclaim.specs.Laws.{SparesNames, HeldStays}
use Rattle.mf_reclaim.specs.Reclaim as licence
use Rattle.mf_reclaim.specs.Reclaim.{IsReclaim, Learns, closes, discards, free_names, is_free, is_shut, was_shut}
use Rattle.mf_reclaim.proofs.Discards.{free_shut}

-- a close leaves the Hold slot
close_hold : (g : ℕ) (c : Closed) (a : Actor) → (did (close g c) a).view.hold ≡ a.view.hold
close_hold g closed.Done a = refl
close_hold g (closed.Pins n) a = refl
close_hold g closed.Already a = refl

-- the held generation isn't closed by closes in turn
held_open : (g k i : ℕ) (answers : List Closed) (rest : List Call) (a : Actor) → a.view.hold ≡ g + 1 → k + i ≡ g
    → AreFair (closes k answers ++ rest) a → is_shut (get_or answers i (closed.Pins 0)) ≡ false
held_open g k i [] rest a hold is fair = refl
held_open g k zero (closed.Done ∷ answers) rest a hold is fair = let e = fair.0 in
    let b = bit_is a.view.hold (k + 1) (omega arith) in absurd (omega arith)
held_open g k zero (closed.Pins n ∷ answers) rest a hold is fair = refl
held_open g k zero (closed.Already ∷ answers) rest a hold is fair = let e = fair.0 in
    let b = bit_is a.view.hold (k + 1) (omega arith) in absurd (omega arith)
held_open g k (suc i) (c ∷ answers) rest a hold is fair =
    held_open g (k + 1) i answers rest (did (close k c) a) (close_hold k c a ∙ hold) (omega arith) fair.1

-- a name that would be dropped isn't of a generation that is open
free_spares : (b : BookFacts) (answers : List Closed) (g : ℕ) (x : Name) → g < length b.shape.stages
    → was_shut answers g ≡ false → is_free b answers x ≡ true → holds b g x ≡ false
free_spares b answers g x low open_now free = by_held (holds b g x) (λ held. free_shut b answers x g free low held)
  where
    by_held : (h : Bool) → (h ≡ true → was_shut answers g ≡ true) → h ≡ false
    by_held true shut = absurd (false≢true (sym open_now ∙ shut refl))
    by_held false shut = refl

-- with one name more in front
spare_first : (b : BookFacts) (g : ℕ) (x : Name) (xs : List Name)
    → ((more : List Bool) → SparesNames b g (discards xs more)) → (t : Bool) → (t ≡ true → holds b g x ≡ false)
    → (changed : List Bool) → SparesNames b g (discards (cond t (x ∷ xs) xs) changed)
spare_first b g x xs others true spares [] = tt
spare_first b g x xs others true spares (y ∷ ys) = (spares refl, others ys)
spare_first b g x xs others false spares changed = others changed

discards_spare : (b : BookFacts) (g : ℕ) (p : Name → Bool) (xs : List Name) (changed : List Bool)
    → ((x : Name) → p x ≡ true → holds b g x ≡ false) → SparesNames b g (discards (filter p xs) changed)
discards_spare b g p [] changed each = tt
discards_spare b g p (x ∷ xs) changed each = spare_first b g x (filter p xs)
    (λ more. discards_spare b g p xs more each) (p x) (each x) changed

closes_spare : (b : BookFacts) (g k : ℕ) (answers : List Closed) (rest : List Call) → SparesNames b g rest
    → SparesNames b g (closes k answers ++ rest)
closes_spare b g k [] rest spares = spares
closes_spare b g k (c ∷ answers) rest spares = closes_spare b g (k + 1) answers rest spares

-- behind the pin
collects_spare : (a : Actor) (g : ℕ) (b : BookFacts) (answers : List Closed) (changed : List Bool)
    → a.view.hold ≡ g + 1 → g < length b.shape.stages
    → AreFair (closes 0 answers ++ discards (free_names b answers) changed) a
    → SparesNames b g (closes 0 answers ++ discards (free_names b answers) changed)
collects_spare a g b answers changed hold low fair = let rest = discards (free_names b answers) changed in
    closes_spare b g 0 answers rest (discards_spare b g (is_free b answers) (all_names b) changed
    (λ x free. free_spares b answers g x low (held_open g 0 g answers rest a hold (omega arith) fair) free))

by_licence : (a : Actor) (g : ℕ) {f : Facts} {o : ReclaimOutcome} {calls : List Call} → IsReclaim f o calls
    → a.view.hold ≡ g + 1 → g < stages f → AreFair calls a → SparesNames f.book g calls
by_licence a g licence.no_memory hold low fair = tt
by_licence a g (licence.absent gs) hold low fair = tt
by_licence a g {f = f} (licence.reclaimed first answers changed learns long) hold low fair =
    by_first first learns fair
  where
    rest : List Call
    rest = closes 0 answers ++ discards (free_names f.book answers) changed

    by_first : (first : List Call) {end : ℕ} → Learns f end first → AreFair (first ++ rest) a
        → SparesNames f.book g (first ++ rest)
    by_first _ (licence.published gs h) fair = collects_spare _ g f.book answers changed
        (tried_hold a.facts gs (pinned.At h) a.view ∙ hold) low fair.1.1
    by_first _ (licence.removed gs) fair = collects_spare _ g f.book answers changed
        (tried_hold a.facts gs pinned.Removed a.view ∙ hold) low fair.1

pub held_stays : HeldStays
held_stays a b g o x held low = by_licence a g x.licence held low x.does.fair
