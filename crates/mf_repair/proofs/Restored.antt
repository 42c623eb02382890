-- Restores in turn.
use Rattle.std.proofs.Common.{◌≡◌, ◌≢◌, ℕ, ◌+◌, ◌<◌, ◌≤◌, Bool, cond, List, [], ◌∷◌, ◌++◌, length, get_or, take, map}
use Rattle.std.proofs.Common.{refl}
use Rattle.std.proofs.Common.{All, sym, ap, ◌∙◌, subst, arith, eq-eqb, ne_eqb, length-append}
use Rattle.std.proofs.lemmas.List.{take_more, take_all, get_or_default, length-map}
use native.Mathlib.Decide.{ℕ_discrete}
use mathlib.Core.Logic.{dite}
use Rattle.mf_machine.specs.Counts.{times, without}
use Rattle.mf_machine.proofs.Lists.{times_else}
use Rattle.mf_places.specs.declared.Name.{Name}
use Rattle.mf_vault.specs.Facts.{Facts, number}
use Rattle.mf_vault.specs.Actor.{Actor, restore, did}
use Rattle.mf_vault.specs.Answers.{Goes}
use Rattle.mf_vault.specs.Licence.{Does}
use Rattle.mf_vault.specs.May.{MayRestore}
use Rattle.mf_vault.proofs.Doing.{more}
use Rattle.mf_vault.proofs.Held.{may_restore_work}
use Rattle.mf_repair.specs.Repair.{restores}
use Rattle.mf_repair.specs.Mending.{IsMender, Stays, IsIn, AreApart, IsLostOf}
use Rattle.mf_repair.proofs.Staying.{stays_nothing, stays_then, stays_restored, mender_stays}
use Rattle.mf_repair.proofs.Listing.{in_holds}

-- a number that isn't taken out stays
without_else : (m n : ℕ) (xs : List ℕ) → m ≢ n → times m (without n xs) ≡ times m xs
without_else m n [] ne = refl
without_else m n (x ∷ xs) ne = let r = without_else m n xs ne in dite (ℕ_discrete x n)
    (λ e. subst (λ (b : Bool). times m (cond b (without n xs) (x ∷ without n xs)) ≡ times m (x ∷ xs)) (sym
    (eq-eqb x n e))
    (let z = times_else m x xs (λ h. ne (h ∙ e)) in r ∙ sym z))
    (λ h. subst (λ (b : Bool). times m (cond b (without n xs) (x ∷ without n xs)) ≡ times m (x ∷ xs)) (sym
    (ne_eqb x n h)) (omega arith))

still_lost : (g j : ℕ) (y x : Name) (a : Actor) → number a.facts y ≢ number a.facts x → IsLostOf g j a y
    → IsLostOf g j (did (restore x) a) y
still_lost g j y x a ne l = record {
  stripe = l.stripe;
  lost = let z = without_else (number a.facts y) (number a.facts x) a.view.build.lost ne in let n = l.lost in omega
      arith;
  reached = l.reached;
}

-- the first i names were restored
pub record Restoring (g j : ℕ) (lost : List Name) (i : ℕ) (a b : Actor) : Type 0 where
  pub does : Does (restores (take i lost)) a b
  pub left : (k : ℕ) (d : Name) → i ≤ k → k < length lost → IsLostOf g j b (get_or lost k d)
  pub stays : Stays a b

pub restoring_none : (g j : ℕ) (lost : List Name) (a : Actor) → All (IsLostOf g j a) lost → Restoring g j lost 0 a a
restoring_none g j lost a all = record {
  does = record { becomes = refl; fair = tt; told = tt };
  left = λ k d from low. all k d low;
  stays = stays_nothing a;
}

restores_more : (xs : List Name) (x : Name) → restores (xs ++ x ∷ []) ≡ restores xs ++ restore x ∷ []
restores_more [] x = refl
restores_more (y ∷ xs) x = ap (λ l. restore y ∷ l) (restores_more xs x)

pub restoring_more : (g j : ℕ) (lost : List Name) (i : ℕ) (d : Name) {a b c : Actor} → AreApart a.facts.book lost
    → Restoring g j lost i a b → i < length lost → Goes (restore (get_or lost i d)) b c
    → Restoring g j lost (i + 1) a c
restoring_more g j lost i d {a = a} {b = b} {c = c} apart r low goes = record {
  does = subst (λ l. Does l a c) (sym (ap restores (take_more lost i d low) ∙ restores_more (take i lost)
      (get_or lost i d)))
      (more r.does goes);
  left = λ k e from below. subst (λ (z : Actor). IsLostOf g j z (get_or lost k e)) (sym goes.becomes)
      (still_lost g j (get_or lost k e) (get_or lost i d) b (differ k e from below) (r.left k e (omega arith) below));
  stays = stays_then r.stays (stays_restored goes);
} where
  differ : (k : ℕ) (e : Name) → i + 1 ≤ k → k < length lost
      → number b.facts (get_or lost k e) ≢ number b.facts (get_or lost i d)
  differ k e from below same = apart i k e (omega arith) below (sym (
      subst (λ (f : Facts). number f (get_or lost k e) ≡ number f (get_or lost i e)) r.stays.facts
      (same ∙ ap (λ y. number b.facts y) (get_or_default lost i d e low))))

pub may_restore : (g j : ℕ) (lost : List Name) (i : ℕ) (d : Name) {a b : Actor} → IsMender g a
    → Restoring g j lost i a b → i < length lost → MayRestore (get_or lost i d) b
may_restore g j lost i d {b = b} m r low =
    let n = mender_stays m r.stays in
    let l = r.left i d (omega arith) low in
    may_restore_work b g (get_or lost i d) n.right n.work n.stage l.stripe.0
    (in_holds b.facts.book g j (get_or lost i d) l.stripe).0 l.lost l.reached

pub restored_all : (g j : ℕ) (lost : List Name) (i : ℕ) {a b : Actor} → Restoring g j lost i a b → length lost ≤ i
    → Does (restores lost) a b
restored_all g j lost i {a = a} {b = b} r end = subst (λ l. Does (restores l) a b) (take_all i lost end) r.does

-- the place of the cell at hand, out of as many cells as names
pub at_hand : {C : Type 0} (f : Name → C) (names : List Name)
    (yielded : List C) {cells rest left : List C} {cell : C} {i : ℕ}
    → cells ≡ map f names
    → cells ≡ yielded ++ left → left ≡ cell ∷ rest → i ≡ length yielded → i < length names
at_hand f names yielded {cells = cells} {rest = rest} {left = left} {cell = cell} made split next count =
    let many = ap length made ∙ length-map names f in
    let parts = ap length (split ∙ ap (λ l. yielded ++ l) next) ∙ length-append yielded (cell ∷ rest) in
    omega arith
