-- The parities that are made, one and all.
use Rattle.std.proofs.Common.{◌≡◌, ◌≢◌, ℕ, suc, ◌+◌, ◌<◌, ◌≤◌, true, false, List, [], ◌∷◌, ◌++◌, length, take, drop}
use Rattle.std.proofs.Common.{get_or, refl, sym}
use Rattle.std.proofs.Common.{ap, ◌∙◌, subst, arith, length-append, length-take-le}
use Rattle.std.proofs.lemmas.Bool.{false≢true}
use Rattle.std.proofs.lemmas.List.{take_more, get_or_default, append_assoc, append-nil}
use Rattle.std.proofs.Math.Seq.{take-length}
use native.Mathlib.Decide.{ℕ_discrete}
use mathlib.Core.Logic.{dite}
use Rattle.mf_machine.specs.declared.answer.State.{State}
use Rattle.mf_machine.specs.declared.answer.State.TheVariants.{Unborn, Here, Lost, Away}
use Rattle.mf_machine.specs.Actors.{Among}
use Rattle.mf_machine.proofs.Lists.{bit_is}
use Rattle.mf_places.specs.declared.Name.{Name}
use Rattle.mf_places.specs.declared.Name.TheVariants as name
use Rattle.mf_places.specs.declared.Name.TheVariants.{Data}
use Rattle.mf_places.specs.Generations.{holds}
use Rattle.mf_vault.specs.Facts.{Facts, number, stages, cell_of}
use Rattle.mf_vault.specs.Actor.{Actor, Call, did}
use Rattle.mf_vault.specs.Actor as call
use Rattle.mf_vault.specs.declared.answers.Got.TheVariants as got
use Rattle.mf_vault.specs.Licence.{Does, did_all, IsFile, entries_of}
use Rattle.mf_vault.proofs.Doing.{nothing, then, facts_stay}
use Rattle.mf_convert.specs.declared.change.Change.{Change}
use Rattle.mf_convert.specs.declared.course.Course.{Course}
use Rattle.mf_convert.specs.Create.{bring}
use Rattle.mf_convert.specs.Convert.{gets, sources, make, makes, names_of}
use Rattle.mf_convert.specs.Converting.{since, IsInTime, MayGoOn, IsFound, AreFound, Completes, Cuts, is_missing}
use Rattle.mf_convert.proofs.Bringing.{brought}
use Rattle.mf_convert.proofs.Courses.{cut_before, cut_behind, at_most_one, since_more, since_longer}
use Rattle.mf_convert.proofs.Marks.{Keeps, keeps_same, keeps_on, gets_keep, bring_keeps, found_stays}
use Rattle.mf_convert.proofs.Next.{next_apart, held_data, held_copy}
use Rattle.mf_convert.proofs.Rows.{around}
use Rattle.mf_convert.proofs.Steady.{stays, gets_ops, make_ops}

-- ---- one parity

-- what is due for a name, where something is
missing_make : (f : Facts) (g w j p : ℕ) (s : State) → is_missing s ≡ true
    → make f g (name.Parity w j p) s ≡ gets f (sources f.book g j p) ++ bring (name.Parity w j p) s
missing_make f g w j p Unborn e = refl
missing_make f g w j p Here e = absurd (false≢true e)
missing_make f g w j p (Lost l) e = refl
missing_make f g w j p (Away y) e = absurd (false≢true e)

there_make : (f : Facts) (g : ℕ) (x : Name) (s : State) → is_missing s ≡ false → make f g x s ≡ []
there_make f g (name.Data i) s e = refl
there_make f g (name.Copy c i) s e = refl
there_make f g (name.Parity w j p) Unborn e = absurd (false≢true (sym e))
there_make f g (name.Parity w j p) Here e = refl
there_make f g (name.Parity w j p) (Lost l) e = absurd (false≢true (sym e))
there_make f g (name.Parity w j p) (Away y) e = refl

other_make : (f : Facts) (g : ℕ) (x : Name) (s : State) → ((w j p : ℕ) → x ≡ name.Parity w j p → ⊥) → make f g x s ≡ []
other_make f g (name.Data i) s none = refl
other_make f g (name.Copy c i) s none = refl
other_make f g (name.Parity w j p) s none = absurd (none w j p refl)

no_call : {c : Course} {cs : List Call} {a : Actor} → cs ≡ [] → IsInTime c a → Completes c cs a a
no_call {c = c} {a = a} e t = subst (λ l. Completes c l a a) (sym e) (record { does = nothing a; time = t })

pub not_due : {c : Course} (f : Facts) (x : Name) (s : State) {a : Actor} → is_missing s ≡ false → IsInTime c a
    → Completes c (make f c.from x s) a a
not_due {c = c} f x s e t = no_call (there_make f c.from x s e) t

pub not_parity : {c : Course} (f : Facts) (x : Name) (s : State) {a : Actor} → ((w j p : ℕ) → x ≡ name.Parity w j p → ⊥)
    → IsInTime c a
    → Completes c (make f c.from x s) a a
not_parity {c = c} f x s none t = no_call (other_make f c.from x s none) t

bring_few : (x : Name) (s : State) → length (entries_of (bring x s)) ≤ 1
bring_few x Unborn = omega arith
bring_few x Here = omega arith
bring_few x (Lost l) = omega arith
bring_few x (Away y) = omega arith

brought_time : {c : Course} (x : Name) (s : State) {a b : Actor} → MayGoOn c a → Does (bring x s) a b → IsInTime c b
brought_time {c = c} x s {a = a} {b = b} m d = record {
  begun = since_longer c m.begun d;
  within =
      let e = ap length (since_more c m.begun d)
      ∙ length-append (since c a) (entries_of (bring x s)) in
      let few = bring_few x s in
      at_most_one c.stop (length (since c a))
      (length (since c b)) (omega arith) m.below;
}

pub made : {c : Course} (w j p : ℕ) (x : Name) (s : State) {a b d : Actor} → x ≡ name.Parity w j p → is_missing s ≡ true
    → Completes c (gets a.facts (sources a.facts.book c.from j p)) a b → MayGoOn c b
    → Does (bring (name.Parity w j p) s) b d
    → Completes c (make a.facts c.from x s) a d
made {c = c} w j p x s {a = a} {d = d} is e got may put = subst (λ y. Completes c (make a.facts c.from y s) a d)
    (sym is)
    (subst (λ l. Completes c l a d) (sym (missing_make a.facts c.from w j p s e))
    (record {
      does = then got.does put;
      time = brought_time (name.Parity w j p) s may put;
    }))

pub made_cut : {c : Course} (w j p : ℕ) (x : Name) (s : State) {o : Change} {a b : Actor} → x ≡ name.Parity w j p
    → is_missing s ≡ true → Cuts c (gets a.facts (sources a.facts.book c.from j p)) o a b
    → Cuts c (make a.facts c.from x s) o a b
made_cut {c = c} w j p x s {o = o} {a = a} {b = b} is e k = subst (λ y. Cuts c (make a.facts c.from y s) o a b) (sym is)
    (subst (λ l. Cuts c l o a b) (sym (missing_make a.facts c.from w j p s e))
    (cut_before (bring (name.Parity w j p) s) k))

-- a cut before the put or restore
due_bring : (x : Name) (s : State) → is_missing s ≡ true → (d : Call) × (bring x s ≡ d ∷ [])
due_bring x Unborn e = (call.put x, refl)
due_bring x Here e = absurd (false≢true e)
due_bring x (Lost l) e = (call.restore x, refl)
due_bring x (Away y) e = absurd (false≢true e)

pub made_stopped : {c : Course} (w j p : ℕ) (x : Name) (s : State) {o : Change} {a b : Actor} → x ≡ name.Parity w j p
    → is_missing s ≡ true → Completes c (gets a.facts (sources a.facts.book c.from j p)) a b
    → ((d : Call) (due : List Call) → Cuts c (d ∷ due) o b b) → Cuts c (make a.facts c.from x s) o a b
made_stopped {c = c} w j p x s {o = o} {a = a} {b = b} is e got stop =
    let d = due_bring (name.Parity w j p) s e in
    subst (λ y. Cuts c (make a.facts c.from y s) o a b) (sym is)
    (subst (λ l. Cuts c l o a b) (sym (missing_make a.facts c.from w j p s e))
    (subst (λ l. Cuts c (gets a.facts (sources a.facts.book c.from j p) ++ l) o a b) (sym d.1)
    (cut_behind got.does (stop d.0 []))))

-- after the gets the name is found as before
pub found_after : (g : ℕ) (xs : List Name) (x : Name) (s : State) {a b : Actor} → Does (gets a.facts xs) a b
    → IsFound g a x s
    → IsFound g b x s
found_after g xs x s {a = a} {b = b} d h = found_stays g x s (facts_stay d) (stays d (gets_ops a.facts xs)).cut
    (subst (λ (z : Actor). Keeps (number a.facts x) a z) (sym d.becomes) (gets_keep (number a.facts x) a.facts xs a)) h

-- ---- what it leaves

did_then : (cs ds : List Call) (a : Actor) → did_all (cs ++ ds) a ≡ did_all ds (did_all cs a)
did_then [] ds a = refl
did_then (c ∷ cs) ds a = did_then cs ds (did c a)

gets_facts : (f : Facts) (xs : List Name) (a : Actor) → (did_all (gets f xs) a).facts ≡ a.facts
gets_facts f [] a = refl
gets_facts f (x ∷ xs) a = gets_facts f xs (did (call.get x (got.Here (cell_of f x))) a)

made_keeps : (m : ℕ) (f : Facts) (xs : List Name) (x : Name) (s : State) (a : Actor) → m ≢ number a.facts x
    → Keeps m a (did_all (gets f xs ++ bring x s) a)
made_keeps m f xs x s a ne = subst (λ z. Keeps m a z) (sym (did_then (gets f xs) (bring x s) a))
    (keeps_on (gets_keep m f xs a) (bring_keeps m x s (did_all (gets f xs) a)
    (λ e. ne (e ∙ ap (λ g. number g x) (gets_facts f xs a)))))

make_keeps : (m : ℕ) (f : Facts) (g : ℕ) (x : Name) (s : State) (a : Actor) → m ≢ number a.facts x
    → Keeps m a (did_all (make f g x s) a)
make_keeps m f g (name.Data i) s a ne = keeps_same m a
make_keeps m f g (name.Copy c i) s a ne = keeps_same m a
make_keeps m f g (name.Parity w j p) Unborn a ne = made_keeps m f (sources f.book g j p) (name.Parity w j p) Unborn a ne
make_keeps m f g (name.Parity w j p) Here a ne = keeps_same m a
make_keeps m f g (name.Parity w j p) (Lost l) a ne = made_keeps m f (sources f.book g j p) (name.Parity w j p)
    (Lost l) a ne
make_keeps m f g (name.Parity w j p) (Away y) a ne = keeps_same m a

-- what is settled stays so
gets_settle : (m : ℕ) (f : Facts) (xs : List Name) (x : Name) (s : State) (a : Actor) → Among m a.view.build.settled
    → Among m (did_all (gets f xs ++ bring x s) a).view.build.settled
gets_settle m f xs x s a h = subst (λ (z : Actor). Among m z.view.build.settled)
    (sym (did_then (gets f xs) (bring x s) a))
    ((brought m x s (did_all (gets f xs) a)).settled ((gets_keep m f xs a).settled h))

make_settles : (m : ℕ) (f : Facts) (g : ℕ) (x : Name) (s : State) (a : Actor) → Among m a.view.build.settled
    → Among m (did_all (make f g x s) a).view.build.settled
make_settles m f g (name.Data i) s a h = h
make_settles m f g (name.Copy c i) s a h = h
make_settles m f g (name.Parity w j p) Unborn a h = gets_settle m f (sources f.book g j p)
    (name.Parity w j p) Unborn a h
make_settles m f g (name.Parity w j p) Here a h = h
make_settles m f g (name.Parity w j p) (Lost l) a h = gets_settle m f (sources f.book g j p) (name.Parity w j p)
    (Lost l) a h
make_settles m f g (name.Parity w j p) (Away y) a h = h

-- and the name itself is settled then
put_settles : (f : Facts) (xs : List Name) (x : Name) (a : Actor)
    → Among (number a.facts x) (did_all (gets f xs ++ call.put x ∷ []) a).view.build.settled
put_settles f xs x a = subst (λ (z : Actor). Among (number a.facts x) z.view.build.settled)
    (sym (did_then (gets f xs) (call.put x ∷ []) a))
    (let b = bit_is (number (did_all (gets f xs) a).facts x) (number a.facts x)
    (ap (λ g. number g x) (gets_facts f xs a)) in omega arith)

make_here : (f : Facts) (g : ℕ) (x : Name) (s : State) (a : Actor) → IsFile a.facts → g + 1 < stages a.facts
    → holds a.facts.book (g + 1) x ≡ true → IsFound g a x s
    → Among (number a.facts x) (did_all (make f g x s) a).view.build.settled
make_here f g (name.Data i) Unborn a file low held h = absurd (false≢true (sym h.0 ∙ held_data a.facts.book g i held))
make_here f g (name.Copy c i) Unborn a file low held h = absurd
    (false≢true (sym h.0 ∙ held_copy a.facts g c i file low held))
make_here f g (name.Parity w j p) Unborn a file low held h = put_settles f (sources f.book g j p) (name.Parity w j p) a
make_here f g x Here a file low held h = make_settles (number a.facts x) f g x Here a h
make_here f g x (Lost l) a file low held h = make_settles (number a.facts x) f g x (Lost l) a h.2
make_here f g x (Away y) a file low held h = absurd h

-- ---- all of them

makes_then : (f : Facts) (g : ℕ) (xs ys : List Name) (ss ts : List State) → length xs ≡ length ss
    → makes f g (xs ++ ys) (ss ++ ts) ≡ makes f g xs ss ++ makes f g ys ts
makes_then f g [] ys [] ts e = refl
makes_then f g [] ys (s ∷ ss) ts e = absurd (omega arith)
makes_then f g (x ∷ xs) ys [] ts e = absurd (omega arith)
makes_then f g (x ∷ xs) ys (s ∷ ss) ts e = ap (λ l. make f g x s ++ l) (makes_then f g xs ys ss ts (omega arith))
    ∙ sym (append_assoc (make f g x s) (makes f g xs ss) (makes f g ys ts))

-- the calls so far, and what the next ones need
pub record Making (c : Course) (names : List Name) (states : List State) (i : ℕ) (a b : Actor) : Type 0 where
  pub completes : Completes c (makes a.facts c.from (take i names) (take i states)) a b
  pub found : AreFound c.from b i names states
  pub settled : (j : ℕ) (x : Name) → j < i → Among (number b.facts (get_or names j x)) b.view.build.settled

pub making_none : {c : Course} {names : List Name} {states : List State} {a : Actor} → IsInTime c a
    → AreFound c.from a 0 names states
    → Making c names states 0 a a
making_none {a = a} t marks = record {
  completes = record { does = nothing a; time = t };
  found = marks;
  settled = λ j x low. absurd (omega arith);
}

-- one more
pub making_more : {c : Course} (names : List Name) (states : List State) (i : ℕ) {a b d : Actor}
    → Making c names states i a b → names ≡ names_of a.facts (c.from + 1) → length states ≡ length names
    → i < length names → IsFile a.facts → c.from + 1 < stages a.facts
    → holds a.facts.book (c.from + 1) (get_or names i (Data 0)) ≡ true
    → Completes c (make b.facts c.from (get_or names i (Data 0)) (get_or states i Unborn)) b d
    → Making c names states (i + 1) a d
making_more {c = c} names states i {a = a} {b = b} {d = d} k is long low file next held more =
    let before : i < length states = omega arith in
    let same = makes_then a.facts c.from (take i names) (x ∷ []) (take i states) (s ∷ [])
    (length-take-le i names (omega arith) ∙ sym (length-take-le i states (omega arith))) in
    let one : Does (make a.facts c.from x s ++ []) b d =
    subst (λ l. Does l b d) (sym (append-nil (make a.facts c.from x s)))
    (subst (λ f. Does (make f c.from x s) b d) facts more.does) in
    record {
      completes = record {
        does = subst (λ l. Does (makes a.facts c.from l (take (i + 1) states)) a d)
            (sym (take_more names i (Data 0) low))
            (subst (λ l. Does (makes a.facts c.from (take i names ++ x ∷ []) l) a d)
            (sym (take_more states i Unborn before))
            (subst (λ l. Does l a d) (sym same) (then k.completes.does one)));
        time = more.time;
      };
      found = marks;
      settled = settles;
    } where
      x : Name
      x = get_or names i (Data 0)

      s : State
      s = get_or states i Unborn

      facts : b.facts ≡ a.facts
      facts = facts_stay k.completes.does

      on : d.facts ≡ b.facts
      on = facts_stay more.does

      differ : (j : ℕ) (e : Name) → i < j → j < length names → number b.facts (get_or names j e) ≢ number b.facts x
      differ j e less below = subst (λ f. number f (get_or names j e) ≢ number f x) (sym facts)
          (λ same. apart j e less below (ap (λ y. number a.facts y) (get_or_default names i e (Data 0) low) ∙ sym same))
        where
          apart : (j : ℕ) (e : Name) → i < j → j < length names
              → number a.facts (get_or names i e) ≢ number a.facts (get_or names j e)
          apart j e less below = subst (λ (l : List Name). j < length l
              → number a.facts (get_or l i e) ≢ number a.facts (get_or l j e))
              (sym is) (λ b. next_apart a.facts (c.from + 1) i j e less b) below

      marks : AreFound c.from d (i + 1) names states
      marks j e r from below = found_stays c.from (get_or names j e) (get_or states j r) on
          (stays more.does (make_ops b.facts c.from x s)).cut
          (subst (λ z. Keeps (number b.facts (get_or names j e)) b z) (sym more.does.becomes)
          (make_keeps (number b.facts (get_or names j e)) b.facts c.from x s b
          (differ j e (omega arith) (omega arith))))
          (k.found j e r (omega arith) below)

      settles : (j : ℕ) (e : Name) → j < i + 1 → Among (number d.facts (get_or names j e)) d.view.build.settled
      settles j e below = subst (λ f. Among (number f (get_or names j e)) d.view.build.settled) (sym on)
          (subst (λ (z : Actor). Among (number b.facts (get_or names j e)) z.view.build.settled) (sym more.does.becomes)
          (dite (ℕ_discrete j i)
          (λ same. subst (λ y. Among (number b.facts y) (did_all (make b.facts c.from x s) b).view.build.settled)
          (sym (ap (λ n. get_or names n e) same ∙ get_or_default names i e (Data 0) low))
          (make_here b.facts c.from x s b (subst IsFile (sym facts) file)
          (subst (λ f. c.from + 1 < stages f) (sym facts) next)
          (subst (λ (f : Facts). holds f.book (c.from + 1) x ≡ true) (sym facts) held)
          (k.found i (Data 0) Unborn (omega arith) (omega arith))))
          (λ ne. make_settles (number b.facts (get_or names j e)) b.facts c.from x s b (k.settled j e (omega arith)))))

-- a cut at place i
pub making_cut : {c : Course} (names : List Name) (states : List State) (i : ℕ) {o : Change} {a b d : Actor}
    → Making c names states i a b → length states ≡ length names → i < length names
    → Cuts c (make b.facts c.from (get_or names i (Data 0)) (get_or states i Unborn)) o b d
    → Cuts c (makes a.facts c.from names states) o a d
making_cut {c = c} names states i {o = o} {a = a} {b = b} {d = d} k long low cut =
    let x = get_or names i (Data 0) in
    let s = get_or states i Unborn in
    let before : i < length states = omega arith in
    let same = makes_then a.facts c.from (take i names) (x ∷ drop (suc i) names) (take i states)
    (s ∷ drop (suc i) states)
    (length-take-le i names (omega arith) ∙ sym (length-take-le i states (omega arith))) in
    subst (λ l. Cuts c (makes a.facts c.from l states) o a d) (sym (around names i (Data 0) low))
    (subst (λ l. Cuts c (makes a.facts c.from (take i names ++ x ∷ drop (suc i) names) l) o a d)
    (sym (around states i Unborn before))
    (subst (λ l. Cuts c l o a d) (sym same)
    (cut_behind k.completes.does
    (cut_before (makes a.facts c.from (drop (suc i) names) (drop (suc i) states))
    (subst (λ f. Cuts c (make f c.from x s) o b d) (facts_stay k.completes.does) cut)))))

-- the whole
pub making_all : {c : Course} (names : List Name) (states : List State) {i : ℕ} {a b : Actor}
    → Making c names states i a b
    → length states ≡ length names → i ≡ length names → Completes c (makes a.facts c.from names states) a b
making_all {c = c} names states {i = i} {a = a} {b = b} k long e =
    subst (λ l. Completes c (makes a.facts c.from l states) a b) (take-length names)
    (subst (λ l. Completes c (makes a.facts c.from (take (length names) names) l) a b) (take-length states)
    (subst (λ n. Completes c (makes a.facts c.from (take (length names) names) (take n states)) a b) (sym long)
    (subst (λ n. Completes c (makes a.facts c.from (take n names) (take n states)) a b) e k.completes)))
