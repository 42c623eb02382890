-- The names of a stripe, and those of them that were found lost.
use Rattle.std.proofs.Common.{◌≡◌, ◌≢◌, ℕ, zero, suc, ◌+◌, ◌<◌, ◌≤◌, ◌==◌, ◌&&◌, Bool, true, false, List, [], ◌∷◌}
use Rattle.std.proofs.Common.{◌++◌}
use Rattle.std.proofs.Common.{length, get_or, filter, refl, sym, ap, ◌∙◌, subst, arith, append_assoc, append-nil, All}
use Rattle.std.specs.List.{AllPairs}
use Rattle.std.proofs.lemmas.Bool.{false≢true}
use Rattle.std.proofs.lemmas.List.{get_or_default}
use Rattle.std.proofs.lemmas.List.Elements.{filter_passes, All-append, All-head, All-tail, All-cons}
use Rattle.std.proofs.lemmas.List.Kept.{AllPairs-filter, AllPairs-cons}
use Rattle.mf_machine.specs.declared.answer.State.{State}
use Rattle.mf_machine.specs.declared.answer.State.TheVariants.{Unborn, Here, Lost, Away}
use Rattle.mf_places.specs.declared.Name.{Name}
use Rattle.mf_places.specs.declared.Name.TheVariants as name
use Rattle.mf_places.specs.Facts.{BookFacts, IsBook}
use Rattle.mf_places.specs.Generations.{holds, holds_in, stripe_of, stripe_names}
use Rattle.mf_places.specs.Names.{all_names, count_of, name_at}
use Rattle.mf_places.specs.Numbers.{number_of}
use Rattle.mf_places.proofs.Names.{number_of-name_at, All-sublist}
use Rattle.mf_places.proofs.Stripes.{stripe_names-is}
use Rattle.mf_repair.specs.Repair.{if_lost, lost_names}
use Rattle.mf_repair.specs.Mending.{HasStripe, IsIn, AreApart}

pub both_true : (p q : Bool) → (p && q) ≡ true → (p ≡ true) × (q ≡ true)
both_true true q e = (refl, e)
both_true false q e = absurd (false≢true e)

-- the generation holds a name of its stripe
pub in_holds : (b : BookFacts) (g j : ℕ) (x : Name) → IsIn b g j x
    → (holds b g x ≡ true) × ((stripe_of b g x == j) ≡ true)
in_holds b g j x is = both_true (holds b g x) (stripe_of b g x == j) is.1

-- each name of the stripe is one
pub each_in : (b : BookFacts) → IsBook b → (g j : ℕ) → HasStripe g j b → All (IsIn b g j) (stripe_names b g j)
each_in b book g j h = subst (λ (l : List Name). All (IsIn b g j) l) (stripe_names-is b book g j h.stage h.stripe)
    (λ k d low. (
      All-sublist b (holds_in b g j) (filter (holds_in b g j) (all_names b)) refl k d low,
      filter_passes (holds_in b g j) (all_names b) k d low,
    ))

all_apart : (b : BookFacts) → AreApart b (all_names b)
unfolding name_at count_of
all_apart b i j d less low same =
    let x = (number_of-name_at b i (omega arith)).1 in
    let y = (number_of-name_at b j low).1 in
    let p = ap (number_of b) (get_or_default (all_names b) i d (name.Data 0) (omega arith)) in
    let q = ap (number_of b) (get_or_default (all_names b) j d (name.Data 0) low) in
    absurd (omega arith)

stripe_apart : (b : BookFacts) → IsBook b → (g j : ℕ) → HasStripe g j b → AreApart b (stripe_names b g j)
stripe_apart b book g j h = subst (λ (l : List Name). AreApart b l) (stripe_names-is b book g j h.stage h.stripe)
    (AllPairs-filter (λ x y. number_of b x ≢ number_of b y) (holds_in b g j) (all_names b) (all_apart b))

-- ---- those that were answered Lost

pub lost_more : (xs : List Name) (ss : List State) (x : Name) (s : State) → length ss ≡ length xs
    → lost_names (xs ++ x ∷ []) (ss ++ s ∷ []) ≡ lost_names xs ss ++ if_lost x s
lost_more [] [] x s e = append-nil (if_lost x s)
lost_more [] (t ∷ ss) x s e = absurd (omega arith)
lost_more (y ∷ xs) [] x s e = absurd (omega arith)
lost_more (y ∷ xs) (t ∷ ss) x s e = ap (λ (l : List Name). if_lost y t ++ l) (lost_more xs ss x s (omega arith))
    ∙ sym (append_assoc (if_lost y t) (lost_names xs ss) (if_lost x s))

pub all_if_lost : (P : Name → Type 0) (x : Name) (s : State) → ((l : ℕ) → s ≡ Lost l → P x) → All P (if_lost x s)
all_if_lost P x Unborn h = λ k d low. absurd (omega arith)
all_if_lost P x Here h = λ k d low. absurd (omega arith)
all_if_lost P x (Lost l) h = All-cons P x [] (h l refl) (λ k d low. absurd (omega arith))
all_if_lost P x (Away y) h = λ k d low. absurd (omega arith)

all_lost : (P : Name → Type 0) (xs : List Name) (ss : List State) → All P xs → All P (lost_names xs ss)
all_lost P [] ss all = λ k d low. absurd (omega arith)
all_lost P (x ∷ xs) [] all = λ k d low. absurd (omega arith)
all_lost P (x ∷ xs) (s ∷ ss) all = All-append P (if_lost x s) (lost_names xs ss)
    (all_if_lost P x s (λ l e. All-head P x xs all)) (all_lost P xs ss (All-tail P x xs all))

lost_apart : (R : Name → Name → Type 0) (xs : List Name) (ss : List State) → AllPairs R xs
    → AllPairs R (lost_names xs ss)
lost_apart R [] ss all = λ i j d less low. absurd (omega arith)
lost_apart R (x ∷ xs) [] all = λ i j d less low. absurd (omega arith)
lost_apart R (x ∷ xs) (s ∷ ss) all = go s (lost_apart R xs ss rest) where
  rest : AllPairs R xs
  rest i j d less low = all (suc i) (suc j) d (omega arith) (omega arith)

  first : All (R x) xs
  first k d low = all zero (suc k) d (omega arith) (omega arith)

  go : (s : State) → AllPairs R (lost_names xs ss) → AllPairs R (if_lost x s ++ lost_names xs ss)
  go Unborn r = r
  go Here r = r
  go (Lost l) r = AllPairs-cons R x (lost_names xs ss) (all_lost (R x) xs ss first) r
  go (Away y) r = r

pub names_apart : (b : BookFacts) → IsBook b → (g j : ℕ) → HasStripe g j b → (states : List State)
    → AreApart b (lost_names (stripe_names b g j) states)
names_apart b book g j h states = lost_apart (λ x y. number_of b x ≢ number_of b y) (stripe_names b g j) states
    (stripe_apart b book g j h)
