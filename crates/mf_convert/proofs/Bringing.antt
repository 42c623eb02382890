-- Puts and restores in turn: what each leaves in the view of the builder.
use Rattle.std.proofs.Common.{◌≡◌, ◌≢◌, ℕ, ◌+◌, ◌<◌, Bool, cond, List, [], ◌∷◌, ◌++◌, length, length-append, map, take}
use Rattle.std.proofs.Common.{get_or, refl, sym, ap, ◌∙◌, subst, eq-eqb, ne_eqb, arith}
use Rattle.std.proofs.lemmas.List.{take_more, get_or_default, length-take-le, append_assoc, append-nil, length-map}
use native.Mathlib.Decide.{ℕ_discrete}
use mathlib.Core.Logic.{dite}
use Rattle.mf_machine.specs.declared.answer.State.{State}
use Rattle.mf_machine.specs.declared.answer.State.TheVariants.{Unborn, Here, Lost, Away}
use Rattle.mf_machine.specs.Actors.{Among}
use Rattle.mf_machine.specs.Counts.{times, without}
use Rattle.mf_machine.proofs.Lists.{bit_is, times_else}
use Rattle.mf_places.specs.declared.Name.{Name}
use Rattle.mf_places.specs.declared.Name.TheVariants.{Data}
use Rattle.mf_vault.specs.Facts.{Facts, number}
use Rattle.mf_vault.specs.Actor.{Actor}
use Rattle.mf_vault.specs.Licence.{Does, did_all}
use Rattle.mf_vault.proofs.Doing.{then}
use Rattle.mf_convert.specs.Create.{bring, brings, first_names}
use Rattle.mf_convert.specs.Building.{IsFirstBuilder, IsMarked, AreMarked, AreSettled}
use Rattle.mf_convert.proofs.Building.{bring_stays}
use Rattle.mf_convert.proofs.Listed.{first_apart}

-- a number that isn't taken out stays
without_else : (m n : ℕ) (xs : List ℕ) → m ≢ n → times m (without n xs) ≡ times m xs
without_else m n [] ne = refl
without_else m n (x ∷ xs) ne = let r = without_else m n xs ne in dite (ℕ_discrete x n)
    (λ e. subst (λ (b : Bool). times m (cond b (without n xs) (x ∷ without n xs)) ≡ times m (x ∷ xs))
    (sym (eq-eqb x n e))
    (let z = times_else m x xs (λ h. ne (h ∙ e)) in r ∙ sym z))
    (λ h. subst (λ (b : Bool). times m (cond b (without n xs) (x ∷ without n xs)) ≡ times m (x ∷ xs))
    (sym (ne_eqb x n h)) (omega arith))

-- what the calls for a name leave: others stand as before, and the name is settled
pub record Brought (m : ℕ) (x : Name) (s : State) (a : Actor) : Type 0 where
  pub unborn : m ≢ number a.facts x → Among m a.view.build.unborn → Among m (did_all (bring x s) a).view.build.unborn
  pub lost : m ≢ number a.facts x → Among m a.view.build.lost → Among m (did_all (bring x s) a).view.build.lost
  pub settled : Among m a.view.build.settled → Among m (did_all (bring x s) a).view.build.settled
  pub here : m ≡ number a.facts x → IsMarked a.view.build (number a.facts x) s
      → Among m (did_all (bring x s) a).view.build.settled

pub brought : (m : ℕ) (x : Name) (s : State) (a : Actor) → Brought m x s a
brought m x Unborn a = record {
  unborn = λ ne h. let z = without_else m (number a.facts x) a.view.build.unborn ne in omega arith;
  lost = λ ne h. h;
  settled = λ h. omega arith;
  here = λ e h. let b = bit_is (number a.facts x) m (sym e) in omega arith;
}
brought m x Here a = record {
  unborn = λ ne h. h;
  lost = λ ne h. h;
  settled = λ h. h;
  here = λ e h. subst (λ k. Among k a.view.build.settled) (sym e) h;
}
brought m x (Lost l) a = record {
  unborn = λ ne h. h;
  lost = λ ne h. let z = without_else m (number a.facts x) a.view.build.lost ne in omega arith;
  settled = λ h. omega arith;
  here = λ e h. let b = bit_is (number a.facts x) m (sym e) in omega arith;
}
brought m x (Away y) a = record {
  unborn = λ ne h. h;
  lost = λ ne h. h;
  settled = λ h. h;
  here = λ e h. absurd h;
}

-- a mark of another name stays
marked_else : (m : ℕ) (x : Name) (s t : State) (a : Actor) → m ≢ number a.facts x → IsMarked a.view.build m t
    → IsMarked (did_all (bring x s) a).view.build m t
marked_else m x s Unborn a ne h = (brought m x s a).unborn ne h
marked_else m x s Here a ne h = (brought m x s a).settled h
marked_else m x s (Lost l) a ne h = ((brought m x s a).lost ne h.0, (brought m x s a).settled h.1)
marked_else m x s (Away y) a ne h = h

facts_brought : (x : Name) (s : State) (a : Actor) → (did_all (bring x s) a).facts ≡ a.facts
facts_brought x Unborn a = refl
facts_brought x Here a = refl
facts_brought x (Lost l) a = refl
facts_brought x (Away y) a = refl

brings_more : (xs : List Name) (ss : List State) (x : Name) (s : State) → length xs ≡ length ss
    → brings (xs ++ x ∷ []) (ss ++ s ∷ []) ≡ brings xs ss ++ (bring x s ++ [])
brings_more [] [] x s e = refl
brings_more [] (t ∷ ss) x s e = absurd (omega arith)
brings_more (y ∷ xs) [] x s e = absurd (omega arith)
brings_more (y ∷ xs) (t ∷ ss) x s e = ap (λ l. bring y t ++ l) (brings_more xs ss x s (omega arith))
    ∙ sym (append_assoc (bring y t) (brings xs ss) (bring x s ++ []))

-- the calls so far, and what the next ones need
pub record Bringing (f : Facts) (names : List Name) (states : List State) (i : ℕ) (a b : Actor) : Type 0 where
  pub does : Does (brings (take i names) (take i states)) a b
  pub builder : IsFirstBuilder f b
  pub marked : AreMarked b i names states
  pub settled : AreSettled b i names

pub bringing_none : {f : Facts} {names : List Name} {states : List State} {a : Actor} → IsFirstBuilder f a
    → AreMarked a 0 names states
    → Bringing f names states 0 a a
bringing_none {a = a} k marks = record {
  does = record { becomes = refl; fair = tt; told = tt };
  builder = k;
  marked = marks;
  settled = λ i x low. absurd (omega arith);
}

-- the numbers of names at different places differ
nth_apart : (f : Facts) {names : List Name} (i j : ℕ) (d : Name) → names ≡ first_names f → i < j → j < length names
    → number f (get_or names i d) ≢ number f (get_or names j d)
nth_apart f {names = names} i j d is less low =
    subst (λ (l : List Name). j < length l → number f (get_or l i d) ≢ number f (get_or l j d)) (sym is)
    (λ below. first_apart f.book i j d less below) low

-- one name more
pub bringing_more : {f : Facts} (names : List Name) (states : List State) (i : ℕ) {a b c : Actor}
    → Bringing f names states i a b
    → names ≡ first_names f → length states ≡ length names → i < length names
    → Does (bring (get_or names i (Data 0)) (get_or states i Unborn)) b c
    → c ≡ did_all (bring (get_or names i (Data 0)) (get_or states i Unborn)) b → Bringing f names states (i + 1) a c
bringing_more {f = f} names states i {a = a} {b = b} {c = c} k is long low more becomes =
    let x = get_or names i (Data 0) in
    let s = get_or states i Unborn in
    let here : i < length states = omega arith in
    let calls : Does (brings (take i names) (take i states) ++ (bring x s ++ [])) a c =
    subst (λ l. Does (brings (take i names) (take i states) ++ l) a c) (sym (append-nil (bring x s))) (then k.does more)
    in
    let same = brings_more (take i names) (take i states) x s
    (length-take-le i names (omega arith) ∙ sym (length-take-le i states (omega arith))) in
    record {
      does = subst (λ l. Does (brings l (take (i + 1) states)) a c) (sym (take_more names i (Data 0) low))
          (subst (λ l. Does (brings (take i names ++ x ∷ []) l) a c) (sym (take_more states i Unborn here))
          (subst (λ l. Does l a c) (sym same) calls));
      builder = bring_stays x s k.builder becomes;
      marked = subst (λ (z : Actor). AreMarked z (i + 1) names states) (sym becomes) marks;
      settled = subst (λ (z : Actor). AreSettled z (i + 1) names) (sym becomes) settles;
    } where
      differ : (j : ℕ) (d : Name) → i < j → j < length names
          → number b.facts (get_or names j d) ≢ number b.facts (get_or names i (Data 0))
      differ j d less below e = nth_apart f i j d is less below (sym (
          subst (λ g. number g (get_or names j d) ≡ number g (get_or names i d)) k.builder.facts
          (e ∙ ap (λ y. number b.facts y) (get_or_default names i (Data 0) d low))))

      y : Name
      y = get_or names i (Data 0)

      t : State
      t = get_or states i Unborn

      marks : AreMarked (did_all (bring y t) b) (i + 1) names states
      marks j d r from below =
          subst (λ g. IsMarked (did_all (bring y t) b).view.build (number g (get_or names j d)) (get_or states j r))
          (sym (facts_brought y t b))
          (marked_else (number b.facts (get_or names j d)) y t (get_or states j r) b
          (differ j d (omega arith) (omega arith))
          (k.marked j d r (omega arith) below))

      settles : AreSettled (did_all (bring y t) b) (i + 1) names
      settles j d below =
          subst (λ g. Among (number g (get_or names j d)) (did_all (bring y t) b).view.build.settled)
          (sym (facts_brought y t b))
          (dite (ℕ_discrete j i)
          (λ e. (brought (number b.facts (get_or names j d)) y t b).here
          (ap (λ n. number b.facts n) (ap (λ n. get_or names n d) e ∙ get_or_default names i d (Data 0) low))
          (k.marked i (Data 0) Unborn (omega arith) (omega arith)))
          (λ ne. (brought (number b.facts (get_or names j d)) y t b).settled (k.settled j d (omega arith))))

-- the place of the cell at hand, out of as many cells as names
pub at_hand : {C : Type 0} (f : Name → C) (names : List Name) (yielded : List C) {cells rest left : List C} {cell : C}
    {i : ℕ}
    → cells ≡ map f names
    → cells ≡ yielded ++ left → left ≡ cell ∷ rest → i ≡ length yielded → i < length names
at_hand f names yielded {cells = cells} {rest = rest} {left = left} {cell = cell} made split next count =
    let many = ap length made ∙ length-map names f in
    let parts = ap length (split ∙ ap (λ l. yielded ++ l) next) ∙ length-append yielded (cell ∷ rest) in
    omega arith
