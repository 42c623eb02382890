-- Probes in turn: what each leaves, and what was found lost.
use Rattle.std.proofs.Common.{◌≡◌, ℕ, ◌+◌, ◌<◌, ◌≤◌, List, [], ◌∷◌, ◌++◌, length, get_or, take, refl, sym, ap, ◌∙◌}
use Rattle.std.proofs.Common.{subst, arith}
use Rattle.std.proofs.Common.{All}
use Rattle.std.proofs.lemmas.List.{take_more, length_push, length-take-le, take_all}
use Rattle.std.proofs.lemmas.List.Elements.{All-append}
use Rattle.mf_machine.specs.declared.answer.State.{State}
use Rattle.mf_machine.specs.declared.answer.State.TheVariants.{Unborn, Here, Lost, Away}
use Rattle.mf_machine.proofs.Lists.{times_more, times_here}
use Rattle.mf_places.specs.declared.Name.{Name}
use Rattle.mf_places.specs.Generations.{stripe_names}
use Rattle.mf_vault.specs.Facts.{Facts, number}
use Rattle.mf_vault.specs.declared.answers.Got.{Got}
use Rattle.mf_vault.specs.declared.answers.Got.TheVariants as got
use Rattle.mf_vault.specs.Actor.{Actor, probe, get, did}
use Rattle.mf_vault.specs.Answers.{Goes, IsReached, FairState}
use Rattle.mf_vault.specs.Licence.{Does, IsFile, did_all}
use Rattle.mf_read.specs.Asking.{Ask, gets, get_of}
use Rattle.mf_vault.specs.May.{MayProbe}
use Rattle.mf_vault.proofs.Doing.{more}
use Rattle.mf_vault.proofs.Held.{may_probe_work}
use Rattle.mf_repair.specs.Repair.{probes, if_lost, lost_names}
use Rattle.mf_repair.specs.Mending.{IsMender, HasStripe, Stays, IsIn, IsLostOf, Probes}
use Rattle.mf_repair.proofs.Staying.{stays_nothing, stays_then, stays_probed, mender_stays}
use Rattle.mf_repair.proofs.Listing.{in_holds, each_in, lost_more, all_if_lost}

-- a name that was found lost is so after a probe
still_lost : (g j : ℕ) (y x : Name) (s : State) (a : Actor) → IsLostOf g j a y → IsLostOf g j (did (probe x s) a) y
still_lost g j y x Unborn a l = record { stripe = l.stripe; lost = l.lost; reached = l.reached }
still_lost g j y x Here a l = record { stripe = l.stripe; lost = l.lost; reached = l.reached }
still_lost g j y x (Lost line) a l = record {
  stripe = l.stripe;
  lost = let m = times_more (number a.facts y) (number a.facts x) a.view.build.lost in let n = l.lost in omega arith;
  reached = l.reached;
}
still_lost g j y x (Away s) a l = record { stripe = l.stripe; lost = l.lost; reached = l.reached }

now_lost : (g j : ℕ) (x : Name) (s : State) (a : Actor) → IsIn a.facts.book g j x → FairState a x s → (l : ℕ)
    → s ≡ Lost l → IsLostOf g j (did (probe x s) a) x
now_lost g j x Unborn a is fair l e = absurd (let z : Unborn ≡ Lost l = e in cc)
now_lost g j x Here a is fair l e = absurd (let z : Here ≡ Lost l = e in cc)
now_lost g j x (Lost k) a is fair l e = record {
  stripe = is;
  lost = let m = times_here (number a.facts x) a.view.build.lost in omega arith;
  reached = fair.0;
}
now_lost g j x (Away s) a is fair l e = absurd (let z : Away s ≡ Lost l = e in cc)

-- the first i names were probed
pub record Probing (g j i : ℕ) (lost : List Name) (a b : Actor) : Type 0 where
  pub states : List State
  pub long : length states ≡ i
  pub names : lost ≡ lost_names (take i (stripe_names a.facts.book g j)) states
  pub found : All (IsLostOf g j b) lost
  pub few : length lost ≤ i
  pub does : Does (probes (take i (stripe_names a.facts.book g j)) states) a b
  pub stays : Stays a b

pub probing_none : (g j : ℕ) (lost : List Name) (a : Actor) → lost ≡ [] → Probing g j 0 lost a a
probing_none g j lost a e = subst (λ (l : List Name). Probing g j 0 l a a) (sym e) record {
  states = [];
  long = refl;
  names = refl;
  found = λ k d low. absurd (omega arith);
  few = omega arith;
  does = record { becomes = refl; fair = tt; told = tt };
  stays = stays_nothing a;
}

probes_more : (xs : List Name) (ss : List State) (x : Name) (s : State) → length ss ≡ length xs
    → probes (xs ++ x ∷ []) (ss ++ s ∷ []) ≡ probes xs ss ++ probe x s ∷ []
probes_more [] [] x s e = refl
probes_more [] (t ∷ ss) x s e = absurd (omega arith)
probes_more (y ∷ xs) [] x s e = absurd (omega arith)
probes_more (y ∷ xs) (t ∷ ss) x s e = ap (λ l. probe y t ∷ l) (probes_more xs ss x s (omega arith))

if_few : (x : Name) (s : State) → length (if_lost x s) ≤ 1
if_few x Unborn = omega arith
if_few x Here = omega arith
if_few x (Lost l) = omega arith
if_few x (Away y) = omega arith

pub probing_more : (g j i : ℕ) {lost next : List Name} {s : State} {a b c : Actor} (d : Name) → IsFile a.facts
    → HasStripe g j a.facts.book → Probing g j i lost a b → i < length (stripe_names a.facts.book g j)
    → Goes (probe (get_or (stripe_names a.facts.book g j) i d) s) b c
    → next ≡ lost ++ if_lost (get_or (stripe_names a.facts.book g j) i d) s → Probing g j (i + 1) next a c
probing_more g j i {lost = lost} {next = next} {s = s} {a = a} {b = b} {c = c} d file has p low goes e =
    subst (λ (l : List Name). Probing g j (i + 1) l a c) (sym e) record {
      states = p.states ++ s ∷ [];
      long = length_push p.states s ∙ ap (λ n. n + 1) p.long;
      names = ap (λ l. l ++ if_lost x s) p.names ∙ (sym (lost_more (take i all) p.states x s same)
          ∙ ap (λ l. lost_names l (p.states ++ s ∷ [])) (sym front));
      found = All-append (IsLostOf g j c) lost (if_lost x s)
          (λ k z below. subst (λ (w : Actor). IsLostOf g j w (get_or lost k z)) (sym goes.becomes)
          (still_lost g j (get_or lost k z) x s b (p.found k z below)))
          (subst (λ (w : Actor). All (IsLostOf g j w) (if_lost x s)) (sym goes.becomes)
          (all_if_lost (IsLostOf g j (did (probe x s) b)) x s (now_lost g j x s b inside goes.fair)));
      few = let n = Rattle.std.proofs.Common.length-append lost (if_lost x s) in let m = if_few x s in
          let k = p.few in omega arith;
      does = subst (λ l. Does (probes l (p.states ++ s ∷ [])) a c) (sym front)
          (subst (λ l. Does l a c) (sym (probes_more (take i all) p.states x s same)) (more p.does goes));
      stays = stays_then p.stays (stays_probed goes);
    }
  where
    all : List Name
    all = stripe_names a.facts.book g j

    x : Name
    x = get_or all i d

    front : take (i + 1) all ≡ take i all ++ x ∷ []
    front = take_more all i d low

    same : length p.states ≡ length (take i all)
    same = p.long ∙ sym (length-take-le i all (omega arith))

    inside : IsIn b.facts.book g j x
    inside = subst (λ (f : Facts). IsIn f.book g j x) (sym p.stays.facts)
        (each_in a.facts.book file.layout g j has i d low)

pub may_probe : (g j i : ℕ) {lost : List Name} {a b : Actor} (d : Name) → IsFile a.facts → IsMender g a
    → HasStripe g j a.facts.book → Probing g j i lost a b → i < length (stripe_names a.facts.book g j)
    → MayProbe (get_or (stripe_names a.facts.book g j) i d) b
may_probe g j i {a = a} {b = b} d file m has p low =
    let n = mender_stays m p.stays in
    let is = subst (λ (f : Facts). IsIn f.book g j (get_or (stripe_names a.facts.book g j) i d)) (sym p.stays.facts)
    (each_in a.facts.book file.layout g j has i d low) in
    may_probe_work b g (get_or (stripe_names a.facts.book g j) i d) n.work n.stage is.0
    (in_holds b.facts.book g j (get_or (stripe_names a.facts.book g j) i d) is).0

pub probing_all : (g j i : ℕ) {lost : List Name} {a b : Actor} → Probing g j i lost a b
    → length (stripe_names a.facts.book g j) ≡ i → Probes g j lost a b
probing_all g j i {lost = lost} {a = a} {b = b} p end =
    let whole = take_all i (stripe_names a.facts.book g j) (omega arith) in
    record {
      states = p.states;
      long = p.long ∙ sym end;
      names = p.names ∙ ap (λ l. lost_names l p.states) whole;
      found = p.found;
      does = subst (λ l. Does (probes l p.states) a b) whole p.does;
      stays = p.stays;
    }

-- and after gets
still_got : (g j : ℕ) (y x : Name) (o : Got) (a : Actor) → IsLostOf g j a y → IsLostOf g j (did (get x o) a) y
still_got g j y x (got.Here c) a l = record { stripe = l.stripe; lost = l.lost; reached = l.reached }
still_got g j y x (got.Lost line) a l = record {
  stripe = l.stripe;
  lost = let m = times_more (number a.facts y) (number a.facts x) a.view.build.lost in let n = l.lost in omega arith;
  reached = l.reached;
}
still_got g j y x (got.Away s) a l = record { stripe = l.stripe; lost = l.lost; reached = l.reached }
still_got g j y x got.Memory a l = record { stripe = l.stripe; lost = l.lost; reached = l.reached }

still_all : (f : Facts) (g j : ℕ) (y : Name) (asks : List Ask) (a : Actor) → IsLostOf g j a y
    → IsLostOf g j (did_all (gets f asks) a) y
still_all f g j y [] a l = l
still_all f g j y (k ∷ asks) a l = still_all f g j y asks (did (get_of f k) a) (still_got g j y k.name _ a l)

pub still_gotten : (g j : ℕ) (y : Name) (asks : List Ask) {a b : Actor} → Does (gets a.facts asks) a b
    → IsLostOf g j a y → IsLostOf g j b y
still_gotten g j y asks {a = a} d l = subst (λ (z : Actor). IsLostOf g j z y) (sym d.becomes)
    (still_all a.facts g j y asks a l)
