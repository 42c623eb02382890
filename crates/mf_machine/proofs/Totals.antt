-- Sums over all actors, and how the account adds up.
use Rattle.std.proofs.Common.{◌≡◌, ◌≢◌, ℕ, zero, suc, ◌+◌, ◌<◌, ◌≤◌, List, [], ◌∷◌, ◌++◌, set, sym, refl, ap, arith}
use mathlib.Core.Option.{some, some-injective, some-ne-none}
use mathlib.Core.Logic.{dite}
use native.Mathlib.Decide.{ℕ_discrete}
use lib.ListN.{get_elem?}
use Rattle.mf_machine.specs.declared.view.Met.{Met}
use Rattle.mf_machine.specs.declared.view.View.{View}
use Rattle.mf_machine.specs.Counts.{total, all_begun, all_opened}
use Rattle.mf_machine.specs.Laws.{met_sum, mets_of, AddsUp}
use Rattle.mf_machine.specs.Steps.{old_half, new_half, joined}
use Rattle.mf_machine.specs.Worlds.{spent_view}
use Rattle.mf_machine.proofs.Lists.{stays}

pub total_set : (f : View → ℕ) (vs : List View) (i : ℕ) (v w : View) → get_elem? vs i ≡ some v → total f
    (set vs i w) + f v ≡ total f vs + f w
total_set f [] i v w e = absurd (some-ne-none v (sym e))
total_set f (x ∷ xs) zero v w e = let is : f x ≡ f v = ap f (some-injective x v e) in omega arith
total_set f (x ∷ xs) (suc i) v w e = let r = total_set f xs i v w e in omega arith

pub total_snoc : (f : View → ℕ) (vs : List View) (w : View) → total f (vs ++ w ∷ []) ≡ total f vs + f w
total_snoc f [] w = omega arith
total_snoc f (x ∷ xs) w = let r = total_snoc f xs w in omega arith

pub total_at : (f : View → ℕ) (vs : List View) (i : ℕ) (v : View) → get_elem? vs i ≡ some v → f v ≤ total f vs
total_at f [] i v e = absurd (some-ne-none v (sym e))
total_at f (x ∷ xs) zero v e = let is : f x ≡ f v = ap f (some-injective x v e) in omega arith
total_at f (x ∷ xs) (suc i) v e = let r = total_at f xs i v e in omega arith

pub total_two : (f : View → ℕ) (vs : List View) (i j : ℕ) (v u : View) → j ≢ i → get_elem? vs i ≡ some v
    → get_elem? vs j ≡ some u → f v + f u ≤ total f vs
total_two f [] i j v u ne e d = absurd (some-ne-none v (sym e))
total_two f (x ∷ xs) zero zero v u ne e d = absurd (ne refl)
total_two f (x ∷ xs) zero (suc j) v u ne e d = let is : f x ≡ f v = ap f (some-injective x v e) in
    let r = total_at f xs j u d in omega arith
total_two f (x ∷ xs) (suc i) zero v u ne e d = let is : f x ≡ f u = ap f (some-injective x u d) in
    let r = total_at f xs i v e in omega arith
total_two f (x ∷ xs) (suc i) (suc j) v u ne e d = let r = total_two f xs i j v u (λ h. ne (ap suc h)) e d in omega arith

pub total_same : (f : View → ℕ) (vs : List View) (i : ℕ) (v w : View) → get_elem? vs i ≡ some v → f w ≡ f v → total f
    (set vs i w) ≡ total f vs
total_same f vs i v w e h = let r = total_set f vs i v w e in omega arith

pub total_grows : (f : View → ℕ) (vs : List View) (i : ℕ) (v w : View) → get_elem? vs i ≡ some v → f v ≤ f w
    → total f vs ≤ total f (set vs i w)
total_grows f vs i v w e h = let r = total_set f vs i v w e in omega arith

pub total_le : (f g : View → ℕ) (vs : List View) → ((j : ℕ) (v : View) → get_elem? vs j ≡ some v → f v ≤ g v)
    → total f vs ≤ total g vs
total_le f g [] h = omega arith
total_le f g (x ∷ xs) h = let a = h 0 x refl in let r = total_le f g xs (λ j v e. h (suc j) v e) in omega arith

pub total_none : (f : View → ℕ) (vs : List View) → ((v : View) → f v ≡ 0) → total f vs ≡ 0
total_none f [] h = refl
total_none f (v ∷ vs) h = let a = h v in let r = total_none f vs h in omega arith

-- where the sum is positive, some actor has its part
pub total_some : (f : View → ℕ) (vs : List View) → 0 < total f vs → (j : ℕ) × (u : View) × (get_elem? vs j ≡ some u) ×
    (0 < f u)
total_some f [] h = absurd (omega arith)
total_some f (x ∷ xs) h = dite (ℕ_discrete (f x) 0) (λ e. let r = total_some f xs (omega arith) in
    (suc r.0, r.1, r.2, r.3)) (λ e. (
      0,
      x,
      refl,
      omega arith,
    ))

-- where the sum is more than one actor's part, another one has some
pub total_other : (f : View → ℕ) (vs : List View) (i : ℕ) (v : View) → get_elem? vs i ≡ some v → f v < total f vs
    → (j : ℕ) × (u : View) × (j ≢ i) × (get_elem? vs j ≡ some u) × (0 < f u)
total_other f [] i v e h = absurd (some-ne-none v (sym e))
total_other f (x ∷ xs) zero v e h = let is : f x ≡ f v = ap f (some-injective x v e) in
    let r = total_some f xs (omega arith) in (suc r.0, r.1, (λ z. omega arith), r.2, r.3)
total_other f (x ∷ xs) (suc i) v e h = dite (ℕ_discrete (f x) 0) (λ z. let r = total_other f xs i v e (omega arith) in
    let n = r.2 in (suc r.0, r.1, (λ d. n (omega arith)), r.3, r.4))
    (λ z. (0, x, (λ d. omega arith), refl, omega arith))

pub all_begun-append : (xs ys : List Met) → all_begun (xs ++ ys) ≡ all_begun xs + all_begun ys
all_begun-append [] ys = omega arith
all_begun-append (x ∷ xs) ys = let r = all_begun-append xs ys in omega arith

pub all_opened-append : (g : ℕ) (xs ys : List Met) → all_opened g (xs ++ ys) ≡ all_opened g xs + all_opened g ys
all_opened-append g [] ys = omega arith
all_opened-append g (x ∷ xs) ys = let r = all_opened-append g xs ys in omega arith

pub met_sum-append : (h : Met → ℕ) (xs ys : List Met) → met_sum h (xs ++ ys) ≡ met_sum h xs + met_sum h ys
met_sum-append h [] ys = omega arith
met_sum-append h (x ∷ xs) ys = let r = met_sum-append h xs ys in omega arith

cut : (d : View → ℕ) (vs : List View) (i : ℕ) (v a b : View) → get_elem? vs i ≡ some v → d a ≡ d v → total d
    (set vs i a ++ b ∷ []) ≡ total d vs + d b
cut d vs i v a b at same = let p = total_snoc d (set vs i a) b in let q = total_set d vs i v a at in omega arith

merged : (d : View → ℕ) (vs : List View) (i j : ℕ) (v u w : View) → j ≢ i → get_elem? vs i ≡ some v
    → get_elem? vs j ≡ some u → d w ≡ d v + d u
    → d spent_view ≡ 0 → total d (set (set vs i w) j spent_view) ≡ total d vs
merged d vs i j v u w apart at there sum none = let p = total_set d vs i v w at in
    let q = total_set d (set vs i w) j u spent_view (stays vs i j w u apart there) in omega arith

pub adds_up : AddsUp
adds_up = record {
  step = λ deed vs i v w at. total_set deed vs i v w at;
  split_made = λ d vs i v at none. let t = cut (λ u. d u.made) vs i v (old_half v) (new_half v) at refl in omega arith;
  split_met = λ h vs i v at. let t = cut (mets_of h) vs i v (old_half v) (new_half v) at refl in omega arith;
  join_made = λ d vs i j v u apart at there none sum. merged (λ x. d x.made) vs i j v u (joined v u) apart at there sum
      none;
  join_met = λ h vs i j v u apart at there none. merged (mets_of h) vs i j v u (joined v u) apart at there
      (let t = met_sum-append h v.gone (u.own ∷ u.gone) in omega arith) (omega arith);
}
