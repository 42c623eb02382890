-- A builder of the first generation: what its probes leave, and what its puts and restores need.
use Rattle.std.proofs.Common.{◌≡◌, ℕ, ◌+◌, ◌<◌, List, [], ◌∷◌, ◌++◌, length, take, get_or, refl, sym, ap, ◌∙◌, subst}
use Rattle.std.proofs.Common.{arith, length-take-le}
use Rattle.std.proofs.lemmas.List.{take_more, length_push, get_or_push, get_or_append_left, get_or_default}
use Rattle.std.proofs.lemmas.Nat.Bits.{bit_at-zero}
use native.Mathlib.Decide.{ℕ_discrete}
use mathlib.Core.Logic.{dite}
use Rattle.mf_machine.specs.declared.answer.State.{State}
use Rattle.mf_machine.specs.declared.answer.State.TheVariants.{Unborn, Here, Lost, Away}
use Rattle.mf_machine.specs.declared.view.View.{View}
use Rattle.mf_machine.specs.Actors.{Among}
use Rattle.mf_machine.specs.Steps.{see_view}
use Rattle.mf_machine.proofs.Lists.{bit_is}
use Rattle.mf_places.specs.declared.Name.{Name}
use Rattle.mf_places.specs.Servers.{IsIn, no_servers}
use Rattle.mf_vault.specs.Facts.{Facts, number, server, stages}
use Rattle.mf_vault.specs.Actor.{Actor, probe, did}
use Rattle.mf_vault.specs.Answers.{Goes, IsReached, FairState}
use Rattle.mf_vault.specs.Licence.{Does, IsBuilding, IsFile, did_all}
use Rattle.mf_vault.specs.May.{MayProbe, MayPut, MayRestore}
use Rattle.mf_vault.proofs.Doing.{more}
use Rattle.mf_vault.proofs.Held.{may_put_next, may_restore_next, may_probe_next}
use Rattle.mf_convert.specs.Cells.{IsFirst}
use Rattle.mf_convert.proofs.Listed.{first_held}
use Rattle.mf_convert.specs.Create.{probes, bring, first_names}
use Rattle.mf_convert.specs.Building.{IsFirstBuilder, IsMarked, AreMarked}

-- no server is in the empty set
in-none : (s : ℕ) → IsIn no_servers s → ⊥
in-none s h = let bit = h.1 in absurd (omega (arith, bit_at-zero s))

-- every server is reached
pub reached : {f : Facts} {a : Actor} → IsFirstBuilder f a → (x : Name) → IsReached a x
reached {a = a} b x = subst (λ c. IsIn c (server a.facts x) → ⊥) (sym b.cut) (in-none (server a.facts x))

-- a builder stays one over a probe, a put and a restore
pub probe_stays : {f : Facts} {x : Name} {s : State} {a b : Actor} → IsFirstBuilder f a → Goes (probe x s) a b
    → IsFirstBuilder f b
probe_stays {f = f} {x = x} {s = s} {a = a} k g = subst (λ (z : Actor). IsFirstBuilder f z) (sym g.becomes) record {
  facts = k.facts;
  building = build s;
  cut = k.cut;
} where
  build : (s : State) → IsBuilding (did (probe x s) a) 0
  build Unborn = record
      { right = k.building.right; looked = k.building.looked; last = k.building.last; seen = k.building.seen }
  build Here = record
      { right = k.building.right; looked = k.building.looked; last = k.building.last; seen = k.building.seen }
  build (Lost l) = record
      { right = k.building.right; looked = k.building.looked; last = k.building.last; seen = k.building.seen }
  build (Away y) = record
      { right = k.building.right; looked = k.building.looked; last = k.building.last; seen = k.building.seen }

pub bring_stays : {f : Facts} (x : Name) (s : State) {a b : Actor} → IsFirstBuilder f a → b ≡ did_all (bring x s) a
    → IsFirstBuilder f b
bring_stays {f = f} x Unborn {a = a} k e = subst (λ (z : Actor). IsFirstBuilder f z) (sym e) record {
  facts = k.facts;
  building = record
      { right = k.building.right; looked = k.building.looked; last = k.building.last; seen = k.building.seen };
  cut = k.cut;
}
bring_stays {f = f} x Here k e = subst (λ (z : Actor). IsFirstBuilder f z) (sym e) k
bring_stays {f = f} x (Lost l) {a = a} k e = subst (λ (z : Actor). IsFirstBuilder f z) (sym e) record {
  facts = k.facts;
  building = record
      { right = k.building.right; looked = k.building.looked; last = k.building.last; seen = k.building.seen };
  cut = k.cut;
}
bring_stays {f = f} x (Away y) k e = subst (λ (z : Actor). IsFirstBuilder f z) (sym e) k

-- what a probe marks, and that the marks of others stay
marked_here : (n : ℕ) (s : State) (v : View) → ((y : ℕ) → s ≡ Away y → ⊥) → IsMarked (see_view s n v).build n s
marked_here n Unborn v reach = let b = bit_is n n refl in omega arith
marked_here n Here v reach = let b = bit_is n n refl in omega arith
marked_here n (Lost l) v reach = let b = bit_is n n refl in ((omega arith), (omega arith))
marked_here n (Away y) v reach = absurd (reach y refl)

unborn_grows : (n m : ℕ) (s : State) (v : View) → Among m v.build.unborn → Among m (see_view s n v).build.unborn
unborn_grows n m Unborn v h = omega arith
unborn_grows n m Here v h = h
unborn_grows n m (Lost l) v h = h
unborn_grows n m (Away y) v h = h

lost_grows : (n m : ℕ) (s : State) (v : View) → Among m v.build.lost → Among m (see_view s n v).build.lost
lost_grows n m Unborn v h = h
lost_grows n m Here v h = h
lost_grows n m (Lost l) v h = omega arith
lost_grows n m (Away y) v h = h

settled_grows : (n m : ℕ) (s : State) (v : View) → Among m v.build.settled → Among m (see_view s n v).build.settled
settled_grows n m Unborn v h = h
settled_grows n m Here v h = omega arith
settled_grows n m (Lost l) v h = omega arith
settled_grows n m (Away y) v h = h

marked_stays : (n m : ℕ) (s t : State) (v : View) → IsMarked v.build m t → IsMarked (see_view s n v).build m t
marked_stays n m s Unborn v h = unborn_grows n m s v h
marked_stays n m s Here v h = settled_grows n m s v h
marked_stays n m s (Lost l) v h = (lost_grows n m s v h.0, settled_grows n m s v h.1)
marked_stays n m s (Away y) v h = h

not_away : (a : Actor) (x : Name) (s : State) → IsReached a x → FairState a x s → (y : ℕ) → s ≡ Away y → ⊥
not_away a x s reach fair y e = reach (subst (λ t. FairState a x t) e fair).0

-- one probe more
pub marked_more : {f : Facts} (names : List Name) (states : List State) {all : List State} (n : ℕ) (d : Name)
    {s : State} {a b : Actor}
    → IsFirstBuilder f a → AreMarked a 0 names states → length states ≡ n → Goes (probe (get_or names n d) s) a b
    → all ≡ states ++ s ∷ [] → n < length names → AreMarked b 0 names all
marked_more {f = f} names states {all = all} n d {s = s} {a = a} {b = b} k marks long g e low =
    subst (λ l. AreMarked b 0 names l) (sym e)
    (subst (λ (z : Actor). AreMarked z 0 names (states ++ s ∷ [])) (sym g.becomes) each) where
      each : AreMarked (did (probe (get_or names n d) s) a) 0 names (states ++ s ∷ [])
      each i x t from below = dite (ℕ_discrete i n)
          (λ same. let here = marked_here (number a.facts (get_or names n d)) s a.view
          (not_away a (get_or names n d) s (reached k (get_or names n d)) g.fair) in
          subst (λ j. IsMarked (see_view s (number a.facts (get_or names n d)) a.view).build
          (number a.facts (get_or names j x)) (get_or (states ++ s ∷ []) j t)) (sym same)
          (subst (λ y. IsMarked (see_view s (number a.facts (get_or names n d)) a.view).build (number a.facts y)
          (get_or (states ++ s ∷ []) n t)) (get_or_default names n d x low)
          (subst (λ u. IsMarked (see_view s (number a.facts (get_or names n d)) a.view).build
          (number a.facts (get_or names n d)) u) (sym (get_or_push states s t n long)) here)))
          (λ other. let len = length_push states s in let before : i < length states = omega arith in
          let m = marked_stays (number a.facts (get_or names n d)) (number a.facts (get_or names i x)) s
          (get_or states i t) a.view (marks i x t from before) in
          subst (λ u. IsMarked (see_view s (number a.facts (get_or names n d)) a.view).build
          (number a.facts (get_or names i x)) u) (sym (get_or_append_left states (s ∷ []) t i before)) m)

-- a book has a first stage
pub some_stage : (f : Facts) → IsFile f → 0 < stages f
some_stage f file = let s = file.layout.shape.chain.some in omega arith

pub may_put_first : {f : Facts} (x : Name) {s : State} {a : Actor} → IsFirstBuilder f a → IsFile a.facts
    → IsFirst a.facts.book x → s ≡ Unborn → IsMarked a.view.build (number a.facts x) s → MayPut x a
may_put_first x {a = a} k file held e h = may_put_next a 0 x k.building (some_stage a.facts file) held.0 held.1
    (subst (λ t. IsMarked a.view.build (number a.facts x) t) e h) (reached k x)

pub may_restore_first : {f : Facts} (x : Name) {s : State} (l : ℕ) {a : Actor} → IsFirstBuilder f a → IsFile a.facts
    → IsFirst a.facts.book x → s ≡ Lost l → IsMarked a.view.build (number a.facts x) s → MayRestore x a
may_restore_first x l {a = a} k file held e h = may_restore_next a 0 x k.building (some_stage a.facts file) held.0
    held.1
    (subst (λ t. IsMarked a.view.build (number a.facts x) t) e h).0 (reached k x)

-- where a name of the first generation may be probed
pub may_probe_first : {f : Facts} (x : Name) {a : Actor} → IsFirstBuilder f a → IsFile a.facts → IsFirst a.facts.book x
    → MayProbe x a
may_probe_first x {a = a} k file held = may_probe_next a 0 x k.building (some_stage a.facts file) held.0 held.1

-- the names of the actor's file
pub nth_held : {f : Facts} {names : List Name} {a : Actor} (n : ℕ) (d : Name) → IsFirstBuilder f a
    → names ≡ first_names f → n < length names
    → IsFirst a.facts.book (get_or names n d)
nth_held {f = f} {names = names} n d k is low =
    subst (λ g. IsFirst g.book (get_or names n d)) (sym k.facts)
    (subst (λ (l : List Name). n < length l → IsFirst f.book (get_or l n d)) (sym is) (first_held f.book n d) low)

-- calls of probes, one more
probes_more : (xs : List Name) (ss : List State) (x : Name) (s : State) → length xs ≡ length ss
    → probes (xs ++ x ∷ []) (ss ++ s ∷ []) ≡ probes xs ss ++ probe x s ∷ []
probes_more [] [] x s e = refl
probes_more [] (t ∷ ss) x s e = absurd (omega arith)
probes_more (y ∷ xs) [] x s e = absurd (omega arith)
probes_more (y ∷ xs) (t ∷ ss) x s e = ap (λ l. probe y t ∷ l) (probes_more xs ss x s (omega arith))

pub probed_more : (xs : List Name) (ss : List State) {ts : List State} (n : ℕ) (d : Name) {s : State} {a b c : Actor}
    → Does (probes (take n xs) ss) a b → length ss ≡ n → Goes (probe (get_or xs n d) s) b c → ts ≡ ss ++ s ∷ []
    → n < length xs
    → Does (probes (take (n + 1) xs) ts) a c
probed_more xs ss n d {s = s} {a = a} {c = c} p long g e low =
    let calls : Does (probes (take n xs) ss ++ probe (get_or xs n d) s ∷ []) a c = more p g in
    let same = probes_more (take n xs) ss (get_or xs n d) s (length-take-le n xs (omega arith) ∙ sym long) in
    subst (λ l. Does (probes (take (n + 1) xs) l) a c) (sym e)
    (subst (λ l. Does (probes l (ss ++ s ∷ [])) a c) (sym (take_more xs n d low))
    (subst (λ l. Does l a c) (sym same) calls))
