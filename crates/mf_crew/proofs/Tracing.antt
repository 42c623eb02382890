-- What a client's commands do to one file, command by command.
use Rattle.std.proofs.Common.{◌≡◌, ◌≢◌, ℕ, zero, suc, ◌+◌, ◌<◌, ◌≤◌, ◌==◌, ◌&&◌, Bool, true, false, cond, List, [], ◌∷◌}
use Rattle.std.proofs.Common.{◌++◌, length, Option, Some, None, get_or, set, refl, sym, ap, ◌∙◌, subst}
use Rattle.std.proofs.Common.{arith, eq-eqb, ne_eqb}
use Rattle.std.proofs.lemmas.List.{length-map, get_or-map}
use Rattle.std.proofs.lemmas.Option.{get_or_from_slice_get}
use mathlib.Core.Logic.{dite}
use native.Mathlib.Decide.{ℕ_discrete}
use Rattle.mf_machine.specs.Answers as said
use Rattle.mf_places.specs.declared.Name.{Name}
use Rattle.mf_places.specs.declared.servers.Servers.{Servers}
use Rattle.mf_lines.specs.declared.parts.Act.{Act}
use Rattle.mf_lines.specs.declared.parts.Act.TheVariants as act
use Rattle.mf_lines.specs.declared.parts.Command.{Command}
use Rattle.mf_lines.specs.Meaning.{Script, file_in}
use Rattle.mf_script.specs.Families.{file_policies}
use Rattle.mf_vault.specs.Facts.{Facts, stages}
use Rattle.mf_vault.specs.Actor.{Actor, Call, did}
use Rattle.mf_vault.specs.Actor as call
use Rattle.mf_vault.specs.Gains.{beside, publishes}
use Rattle.mf_vault.specs.Licence.{Does}
use Rattle.mf_vault.proofs.Doing.{same, then, facts_stay}
use Rattle.mf_vault.specs.Conditions.{IsIdle, Leaves}
use Rattle.mf_vault.proofs.Leaving.{AreQuiet, quiet_all, stays_leaves}
use Rattle.mf_convert.specs.declared.change.Change.{Change}
use Rattle.mf_convert.proofs.Leaving.{converts_leaves}
use Rattle.mf_convert.specs.declared.change.Change.TheVariants as change
use Rattle.mf_client.specs.declared.done.Done.{Done}
use Rattle.mf_client.specs.declared.done.Outcome.{Outcome}
use Rattle.mf_client.specs.declared.done.Outcome.TheVariants as outcome
use Rattle.mf_client.specs.declared.done.Part.{Part}
use Rattle.mf_client.specs.declared.done.Place.{Place}
use Rattle.mf_client.specs.Acts.{ActsBy, Comes, LosesIn, LosesAll, IsLost, lists_on, cut_all, away_of, loses}
use Rattle.mf_client.specs.OnFile.{OnFile}
use Rattle.mf_client.specs.Runs.{RunsFrom, IsDone}
use Rattle.mf_client.specs.Sweeps.{ConvertsInTurn, Visit, Visits, VisitsInTurn, IsSwept, parts_of, parts_in}
use Rattle.mf_crew.specs.Tales.{Tale, no_tale, add_tale, change_tale, outcome_tale, parts_tale, tale_in, done_tale}
use Rattle.mf_crew.specs.Tales.{takes_right, takes_in, takes, hold_by, hold_in}
use Rattle.mf_crew.proofs.Counting.{sum_append, absents, loses_mute}
use Rattle.mf_crew.proofs.Closing.{converts_open, mute_open, open_does}
use Rattle.mf_crew.proofs.Holding.{More, leaves_more, still_leaves, still_open, comes_more, change_names_none}
use Rattle.mf_crew.proofs.Holding.{change_closes_none}
use Rattle.mf_crew.proofs.Staying.{acts_shares, cut_shares}
use Rattle.mf_crew.proofs.Telling.{Fits, mute_fits, convert_fits, Says, comes_say}

-- ---- a place of a list that is written

pub set_here : {A : Type 0} (xs : List A) (i : ℕ) (x d : A) → i < length xs → get_or (set xs i x) i d ≡ x
set_here [] i x d low = absurd (omega (arith, low))
set_here (y ∷ xs) zero x d low = refl
set_here (y ∷ xs) (suc i) x d low = set_here xs i x d (omega (arith, low))

pub set_else : {A : Type 0} (xs : List A) (i j : ℕ) (x d : A) → i ≢ j → get_or (set xs i x) j d ≡ get_or xs j d
set_else [] i j x d ne = refl
set_else (y ∷ xs) zero zero x d ne = absurd (ne refl)
set_else (y ∷ xs) zero (suc j) x d ne = refl
set_else (y ∷ xs) (suc i) zero x d ne = refl
set_else (y ∷ xs) (suc i) (suc j) x d ne = set_else xs i j x d (λ e. ne (ap suc e))

-- ---- tales that calls fit

-- the first tale has no more, and just the publishings, of the second
record Under (t u : Tale) : Type 0 where
  published : (m : ℕ) → t.published m ≡ u.published m
  refused : t.refused ≤ u.refused
  absent : t.absent ≤ u.absent

under_fits : {f : Facts} {took : Bool} {cs : List Call} {t u : Tale} → Under t u → Fits f u took cs → Fits f t took cs
under_fits x y = record {
  published = λ m. y.published m ∙ sym (x.published m);
  refused = let a = x.refused in let b = y.refused in omega arith;
  absent = let a = x.absent in let b = y.absent in omega arith;
  begun = y.begun;
}

under_on : {t u v : Tale} → Under t u → Under u v → Under t v
under_on x y = record {
  published = λ m. x.published m ∙ y.published m;
  refused = let a = x.refused in let b = y.refused in omega arith;
  absent = let a = x.absent in let b = y.absent in omega arith;
}

under_add : {t u v w : Tale} → Under t u → Under v w → Under (add_tale t v) (add_tale u w)
under_add x y = record {
  published = λ m. let a = x.published m in let b = y.published m in omega arith;
  refused = let a = x.refused in let b = y.refused in omega arith;
  absent = let a = x.absent in let b = y.absent in omega arith;
}

-- calls in turn
fits_both : {f : Facts} {t u : Tale} (xs ys : List Call) → Fits f t true xs → Fits f u true ys
    → Fits f (add_tale t u) true (xs ++ ys)
fits_both {f = f} xs ys x y = record {
  published = λ m.
      let a = x.published m in let b = y.published m in let c = sum_append (publishes m) xs ys in omega arith;
  refused = let a = x.refused in let b = y.refused in let c = sum_append (beside f said.refused) xs ys in omega arith;
  absent = let a = x.absent in let b = y.absent in let c = sum_append absents xs ys in omega arith;
  begun = λ low. refl;
}

took_on : {f : Facts} {t : Tale} {took : Bool} {cs : List Call} → Fits f t took cs → Fits f t true cs
took_on x = record { published = x.published; refused = x.refused; absent = x.absent; begun = λ low. refl }

-- ---- a command on one file

-- what a command on this file, or on none, did to the file with number n
pub record Came (q n : ℕ) (file : Option ℕ) (o : Outcome) (parts : List Part) (a b : Actor) : Type 0 where
  pub calls : List Call
  pub does : Does calls a b
  pub fits : Fits a.facts (tale_in q n file o parts) (takes_in n file o) calls
  pub more : More (hold_in n file o a.view.hold) (tale_in q n file o parts) a b

came_here : (q n file : ℕ) (o : Outcome) (parts : List Part) {a b : Actor} → file ≡ n → Says q o a b
    → More (hold_by o a.view.hold) (outcome_tale q o) a b → Came q n (Some file) o parts a b
came_here q n file o parts {a = a} {b = b} e x y = record {
  calls = x.calls;
  does = x.does;
  more = subst (λ (z : Bool). More (cond z (hold_by o a.view.hold) a.view.hold) (cond z (outcome_tale q o) no_tale) a b)
      (sym (eq-eqb file n e)) y;
  fits = subst (λ (z : Bool). Fits a.facts (cond z (outcome_tale q o) no_tale) (z && takes_right o) x.calls)
      (sym (eq-eqb file n e)) x.fits;
}

came_else : (q n file : ℕ) (o : Outcome) (parts : List Part) {a b : Actor} → file ≢ n → b ≡ a
    → Came q n (Some file) o parts a b
came_else q n file o parts {a = a} {b = b} ne e = record {
  calls = [];
  does = same e;
  more = subst (λ (z : Bool). More (cond z (hold_by o a.view.hold) a.view.hold) (cond z (outcome_tale q o) no_tale) a b)
      (sym (ne_eqb file n ne)) (leaves_more (λ g m. refl) refl (still_leaves e) (still_open e));
  fits = subst (λ (z : Bool). Fits a.facts (cond z (outcome_tale q o) no_tale) (z && takes_right o) [])
      (sym (ne_eqb file n ne)) (mute_fits a.facts false [] tt);
}

on_came : (q n file : ℕ) (x : Act) (o : Outcome) (parts : List Part) (d : Actor) (before after : List Actor)
    → OnFile file (Comes x o) before after → n < length before → stages (get_or before n d).facts ≡ q
    → Came q n (Some file) o parts (get_or before n d) (get_or after n d)
on_came q n file x o parts d before after on low e = dite (ℕ_discrete file n)
    (λ here.
    let was : get_or before n d ≡ on.old =
    ap (λ k. get_or before k d) (sym here) ∙ get_or_from_slice_get before file on.old d on.was in
    let is : get_or after n d ≡ on.new =
    ap (λ (l : List Actor). get_or l n d) (on.is ∙ ap (λ k. set before k on.new) here)
    ∙ set_here before n on.new d low in
    let says = comes_say q x o (ap (λ (a : Actor). stages a.facts) (sym was) ∙ e) on.goes in
    let more = comes_more q x o on.goes in
    came_here q n file o parts here
    (subst (λ (z : Actor). Says q o z (get_or after n d)) (sym was) (subst (Says q o on.old) (sym is) says))
    (subst (λ (z : Actor). More (hold_by o z.view.hold) (outcome_tale q o) z (get_or after n d)) (sym was)
    (subst (More (hold_by o on.old.view.hold) (outcome_tale q o) on.old) (sym is) more)))
    (λ ne. came_else q n file o parts ne
    (ap (λ (l : List Actor). get_or l n d) on.is ∙ set_else before file n on.new d ne))

-- ---- a server that is emptied

quiet_loses : (line : ℕ) (xs : List Name) (answers : List Bool) → AreQuiet (loses line xs answers)
quiet_loses line [] answers = tt
quiet_loses line (x ∷ xs) [] = tt
quiet_loses line (x ∷ xs) (b ∷ answers) = (tt, quiet_loses line xs answers)

loses_leaves : (line : ℕ) (names : List Name) {k : ℕ} {a b : Actor} → LosesIn line names k a b → IsIdle a → Leaves a b
loses_leaves line names {a = a} x idle = subst (Leaves a) (sym x.does.becomes)
    (stays_leaves idle (quiet_all (loses line names x.answers) a (quiet_loses line names x.answers)))

lost_came : (q n line : ℕ) (o : Outcome) (lists : List (List Name)) (k : ℕ) (d : Actor) (before after : List Actor)
    → LosesAll line lists k before after → n < length before
    → Came q n None o [] (get_or before n d) (get_or after n d)
lost_came q n line o [] k d [] [] x low = absurd (omega (arith, low))
lost_came q n line o [] k d [] (b ∷ after) x low = absurd x
lost_came q n line o [] k d (a ∷ before) after x low = absurd x
lost_came q n line o (names ∷ lists) k d [] after x low = absurd x
lost_came q n line o (names ∷ lists) k d (a ∷ before) [] x low = absurd x
lost_came q zero line o (names ∷ lists) k d (a ∷ before) (b ∷ after) (m, r, e, one, others) low = record {
  calls = loses line names one.answers;
  does = one.does;
  fits = mute_fits a.facts (takes_right o) (loses line names one.answers) (loses_mute line names one.answers);
  more = leaves_more (λ g m. refl) refl (loses_leaves line names one)
      (open_does one.does (mute_open (loses line names one.answers) (loses_mute line names one.answers)));
}
lost_came q (suc n) line o (names ∷ lists) k d (a ∷ before) (b ∷ after) (m, r, e, one, others) low =
    let came = lost_came q n line o lists r d before after others (omega (arith, low)) in
    record { calls = came.calls; does = came.does; fits = came.fits; more = came.more }

none_came : (q n : ℕ) (o : Outcome) (d : Actor) (before after : List Actor) → after ≡ before
    → Came q n None o [] (get_or before n d) (get_or after n d)
none_came q n o d before after e = record {
  calls = [];
  does = same (ap (λ (l : List Actor). get_or l n d) e);
  fits = mute_fits (get_or before n d).facts (takes_right o) [] tt;
  more = leaves_more (λ g m. refl) refl (still_leaves (ap (λ (l : List Actor). get_or l n d) e))
      (still_open (ap (λ (l : List Actor). get_or l n d) e));
}

loses_came : (q n server line : ℕ) (o : Outcome) (d : Actor) (before after : List Actor)
    → IsLost server line o before after → n < length before
    → Came q n None o [] (get_or before n d) (get_or after n d)
loses_came q n server line (outcome.Lost k) d before after x low =
    lost_came q n line (outcome.Lost k) (lists_on server before) k d before after x low
loses_came q n server line outcome.Memory d before after x low = none_came q n outcome.Memory d before after x
loses_came q n server line o d before after x low = absurd x

-- ---- a sweep

-- what changes in turn tell
abbrev changes_tale : (q : ℕ) → List Change → Tale
changes_tale q [] = no_tale
changes_tale q (c ∷ cs) = add_tale (change_tale q c) (changes_tale q cs)

-- calls led from one actor to the other, and fit the tale
record Turned (t : Tale) (a b : Actor) : Type 0 where
  calls : List Call
  does : Does calls a b
  fits : Fits a.facts t true calls
  leaves : IsIdle a → Leaves a b
  keeps : b.view.made.closings ≡ a.view.made.closings

turned_same : {a b : Actor} → b ≡ a → Turned no_tale a b
turned_same {a = a} e =
    record {
      calls = [];
      does = same e;
      fits = mute_fits a.facts true [] tt;
      leaves = still_leaves e;
      keeps = still_open e;
    }

turned_then : {t u : Tale} {a b c : Actor} → Turned t a b → Turned u b c → Turned (add_tale t u) a c
turned_then {u = u} {a = a} x y = record {
  calls = x.calls ++ y.calls;
  does = then x.does y.does;
  fits = fits_both x.calls y.calls x.fits
      (subst (λ (f : Facts). Fits f u true y.calls) (facts_stay x.does) y.fits);
  leaves = λ idle.
      let p = x.leaves idle in
      let q = y.leaves p.idle in
      record { idle = q.idle; facts = q.facts ∙ p.facts; hold = q.hold ∙ p.hold; cut = q.cut ∙ p.cut };
  keeps = y.keeps ∙ x.keeps;
}

turn_tells : (q upto : ℕ) (cs : List Change) (a b : Actor) → ConvertsInTurn upto cs a b
    → Turned (changes_tale q cs) a b
turn_tells q upto [] a b x = turned_same x
turn_tells q upto (c ∷ cs) a b (mid, one, rest) =
    turned_then (record {
      calls = one.calls;
      does = one.does;
      fits = took_on (convert_fits q one.licence);
      leaves = converts_leaves one;
      keeps = converts_open one;
    })
    (turn_tells q upto cs mid b rest)

-- what visits tell of the file with number n
abbrev visit_tale : (q n : ℕ) → Visit → Tale
visit_tale q n v = cond (v.file == n) (changes_tale q v.changes) no_tale

abbrev visits_tale : (q n : ℕ) → List Visit → Tale
visits_tale q n [] = no_tale
visits_tale q n (v ∷ vs) = add_tale (visit_tale q n v) (visits_tale q n vs)

visit_tells : (q n : ℕ) (v : Visit) (d : Actor) (before after : List Actor) → OnFile v.file (Visits v) before after
    → n < length before → Turned (visit_tale q n v) (get_or before n d) (get_or after n d)
visit_tells q n v d before after on low = dite (ℕ_discrete v.file n)
    (λ here.
    let was : get_or before n d ≡ on.old =
    ap (λ k. get_or before k d) (sym here) ∙ get_or_from_slice_get before v.file on.old d on.was in
    let is : get_or after n d ≡ on.new =
    ap (λ (l : List Actor). get_or l n d) (on.is ∙ ap (λ k. set before k on.new) here)
    ∙ set_here before n on.new d low in
    subst (λ (z : Bool). Turned (cond z (changes_tale q v.changes) no_tale) (get_or before n d) (get_or after n d))
    (sym (eq-eqb v.file n here))
    (subst (λ (z : Actor). Turned (changes_tale q v.changes) z (get_or after n d)) (sym was)
    (subst (Turned (changes_tale q v.changes) on.old) (sym is)
    (turn_tells q v.due v.changes on.old on.new on.goes.converts))))
    (λ ne. subst (λ (z : Bool). Turned (cond z (changes_tale q v.changes) no_tale) (get_or before n d)
    (get_or after n d)) (sym (ne_eqb v.file n ne))
    (turned_same (ap (λ (l : List Actor). get_or l n d) on.is ∙ set_else before v.file n on.new d ne)))

-- a visit leaves as many actors
visit_long : (v : Visit) (before after : List Actor) → OnFile v.file (Visits v) before after
    → length after ≡ length before
visit_long v before after on = ap length on.is ∙ set_long before v.file on.new
  where
    set_long : (xs : List Actor) (i : ℕ) (x : Actor) → length (set xs i x) ≡ length xs
    set_long [] i x = refl
    set_long (y ∷ xs) zero x = refl
    set_long (y ∷ xs) (suc i) x = ap suc (set_long xs i x)

visits_tell : (q n : ℕ) (vs : List Visit) (d : Actor) (before after : List Actor) → VisitsInTurn vs before after
    → n < length before → Turned (visits_tale q n vs) (get_or before n d) (get_or after n d)
visits_tell q n [] d before after x low = turned_same (ap (λ (l : List Actor). get_or l n d) x)
visits_tell q n (v ∷ vs) d before after (mid, one, rest) low =
    let long = visit_long v before mid one in
    turned_then (visit_tells q n v d before mid one low)
    (visits_tell q n vs d mid after rest (omega (arith, low, long)))

-- the parts of a sweep tell no more
parts_append : (q n : ℕ) (xs ys : List Part)
    → Under (parts_tale q n (xs ++ ys)) (add_tale (parts_tale q n xs) (parts_tale q n ys))
parts_append q n [] ys = record { published = λ m. omega arith; refused = omega arith; absent = omega arith }
parts_append q n (x ∷ xs) ys = let r = parts_append q n xs ys in record {
  published = λ m. let a = r.published m in omega arith;
  refused = let a = r.refused in omega arith;
  absent = let a = r.absent in omega arith;
}

-- a change more, which is told
part_more : (b : Bool) (c x r : Tale) → Under r (cond b x no_tale)
    → Under (add_tale (cond b c no_tale) r) (cond b (add_tale c x) no_tale)
part_more true c x r u = record {
  published = λ m. let a = u.published m in omega arith;
  refused = let a = u.refused in omega arith;
  absent = let a = u.absent in omega arith;
}
part_more false c x r u = record {
  published = λ m. let a = u.published m in omega arith;
  refused = let a = u.refused in omega arith;
  absent = let a = u.absent in omega arith;
}

-- one that isn't told, and published nothing
part_none : (b : Bool) (c x r : Tale) → ((m : ℕ) → c.published m ≡ 0) → Under r (cond b x no_tale)
    → Under r (cond b (add_tale c x) no_tale)
part_none true c x r none u = record {
  published = λ m. let a = u.published m in let z = none m in omega arith;
  refused = let a = u.refused in omega arith;
  absent = let a = u.absent in omega arith;
}
part_none false c x r none u = u

changes_under : (q n file : ℕ) (cs : List Change)
    → Under (parts_tale q n (parts_of file cs)) (cond (file == n) (changes_tale q cs) no_tale)
changes_under q n file [] = empty (file == n)
  where
    empty : (b : Bool) → Under no_tale (cond b no_tale no_tale)
    empty true = record { published = λ m. refl; refused = omega arith; absent = omega arith }
    empty false = record { published = λ m. refl; refused = omega arith; absent = omega arith }
changes_under q n file (change.Last g ∷ cs) = part_none (file == n) (change_tale q (change.Last g)) (changes_tale q cs)
    (parts_tale q n (parts_of file cs)) (λ m. refl) (changes_under q n file cs)
changes_under q n file (change.Absent ∷ cs) = part_none (file == n) (change_tale q change.Absent) (changes_tale q cs)
    (parts_tale q n (parts_of file cs)) (λ m. refl) (changes_under q n file cs)
changes_under q n file (change.Removed ∷ cs) = part_none (file == n) (change_tale q change.Removed)
    (changes_tale q cs) (parts_tale q n (parts_of file cs)) (λ m. refl) (changes_under q n file cs)
changes_under q n file (c ∷ cs) = part_more (file == n) (change_tale q c) (changes_tale q cs)
    (parts_tale q n (parts_of file cs)) (changes_under q n file cs)

visits_under : (q n : ℕ) (vs : List Visit) → Under (parts_tale q n (parts_in vs)) (visits_tale q n vs)
visits_under q n [] = record { published = λ m. refl; refused = omega arith; absent = omega arith }
visits_under q n (v ∷ vs) = under_on (parts_append q n (parts_of v.file v.changes) (parts_in vs))
    (under_add (changes_under q n v.file v.changes) (visits_under q n vs))

-- and name no refused close
parts_name_none : (q n : ℕ) (parts : List Part) (g m : ℕ) → (parts_tale q n parts).pinned g m ≡ 0
parts_name_none q n [] g m = refl
parts_name_none q n (p ∷ parts) g m =
    let r = parts_name_none q n parts g m in
    let one = either (p.file == n) in omega arith
  where
    either : (b : Bool) → (cond b (change_tale q p.change) no_tale).pinned g m ≡ 0
    either true = change_names_none q p.change g m
    either false = refl

parts_close_none : (q n : ℕ) (parts : List Part) → (parts_tale q n parts).closed ≡ 0
parts_close_none q n [] = refl
parts_close_none q n (p ∷ parts) =
    let r = parts_close_none q n parts in
    let one = either (p.file == n) in omega arith
  where
    either : (b : Bool) → (cond b (change_tale q p.change) no_tale).closed ≡ 0
    either true = change_closes_none q p.change
    either false = refl

swept_came : (q n : ℕ) (policies : List (Option (List ℕ))) (o : Outcome) (parts : List Part) (d : Actor)
    (before after : List Actor) → IsSwept policies o parts before after → n < length before
    → Came q n None o parts (get_or before n d) (get_or after n d)
swept_came q n policies (outcome.Swept k) parts d before after x low =
    let t = visits_tell q n x.visits d before after x.turn low in record {
      calls = t.calls;
      does = t.does;
      fits = subst (λ (l : List Part). Fits (get_or before n d).facts (parts_tale q n l) true t.calls) (sym x.told)
          (under_fits (visits_under q n x.visits) t.fits);
      more = leaves_more (parts_name_none q n parts) (parts_close_none q n parts) t.leaves t.keeps;
    }
swept_came q n policies outcome.Memory parts d before after x low =
    subst (λ (l : List Part). Came q n None outcome.Memory l (get_or before n d) (get_or after n d)) (sym x.0)
    (none_came q n outcome.Memory d before after x.1)
swept_came q n policies o parts d before after x low = absurd x

-- ---- any command

by_came : (q n : ℕ) (file : Option ℕ) (policies : List (Option (List ℕ))) (line : ℕ) (x : Act) (o : Outcome)
    (parts : List Part) (d : Actor) (before after : List Actor) → ActsBy file policies line x o parts before after
    → n < length before → stages (get_or before n d).facts ≡ q
    → Came q n file o parts (get_or before n d) (get_or after n d)
by_came q n (Some file) policies line x o parts d before after h low e =
    on_came q n file x o parts d before after h.1 low e
by_came q n None policies line (act.Lose server) o parts d before after h low e =
    subst (λ (l : List Part). Came q n None o l (get_or before n d) (get_or after n d)) (sym h.0)
    (loses_came q n server line o d before after h.1 low)
by_came q n None policies line act.Sweep o parts d before after h low e =
    swept_came q n policies o parts d before after h low
by_came q n None policies line x o parts d before after h low e = absurd h

-- what a command did to the file with number n: behind a cutting off its calls say what the command tells
pub record Step (q n : ℕ) (x : Done) (a b : Actor) : Type 0 where
  pub away : Servers
  pub calls : List Call
  pub does : Does calls (did (call.cut_off away) a) b
  pub fits : Fits a.facts (done_tale q n x) (takes n x) calls
  pub more : More (hold_in n (file_in x.act) x.outcome a.view.hold) (done_tale q n x) (did (call.cut_off away) a) b

-- so did commands in turn
abbrev pub Trace : (q n : ℕ) → List Done → Actor → Actor → Type 0
Trace q n [] a b = b ≡ a
Trace q n (x ∷ done) a b = (mid : Actor) × Step q n x a mid × Trace q n done mid b

done_step : (s : Script) (q n : ℕ) {at : Place} (c : Command) (x : Done) (d : Actor) (before after : List Actor)
    → IsDone s at c x before after → n < length before → stages (get_or before n d).facts ≡ q
    → Step q n x (get_or before n d) (get_or after n d)
done_step s q n c x d before after is low e =
    let away = away_of c.act in
    let cut = cut_all away before in
    let long = length-map before (did (call.cut_off away)) in
    let d' = did (call.cut_off away) d in
    let at : get_or cut n d ≡ did (call.cut_off away) (get_or before n d) =
    get_or-map (did (call.cut_off away)) before n d d low in
    let came = by_came q n (file_in c.act) (file_policies s) c.line c.act x.outcome x.parts d cut after is.acts
    (omega (arith, low, long)) (ap (λ (a : Actor). stages a.facts) at ∙ e) in
    let tale = λ (y : Act). tale_in q n (file_in y) x.outcome x.parts in
    let took = λ (y : Act). takes_in n (file_in y) x.outcome in
    record {
      away = away;
      calls = came.calls;
      does = subst (λ (z : Actor). Does came.calls z (get_or after n d)) at came.does;
      fits = subst (λ (y : Act). Fits (get_or before n d).facts (tale y) (took y) came.calls) (sym is.act)
          (subst (λ (f : Facts). Fits f (tale c.act) (took c.act) came.calls)
          (ap (λ (a : Actor). a.facts) at) came.fits);
      more = subst (λ (y : Act). More (hold_in n (file_in y) x.outcome (get_or before n d).view.hold) (tale y)
          (did (call.cut_off away) (get_or before n d)) (get_or after n d)) (sym is.act)
          (subst (λ (z : Actor). More (hold_in n (file_in c.act) x.outcome z.view.hold) (tale c.act) z (get_or after n d))
          at came.more);
    }

pub step_facts : {q n : ℕ} {x : Done} {a b : Actor} → Step q n x a b → b.facts ≡ a.facts
step_facts s = facts_stay s.does

-- as many actors as before
done_long : (s : Script) {at : Place} (c : Command) (x : Done) (before after : List Actor) → IsDone s at c x before after
    → length after ≡ length before
done_long s c x before after is =
    let share = λ (a : Actor). a.view.share in
    sym (length-map after share)
    ∙ ap length (acts_shares (file_policies s) c.line c.act x.outcome x.parts (cut_all (away_of c.act) before) after is.acts
    ∙ cut_shares (away_of c.act) before)
    ∙ length-map before share

pub trace_from : (s : Script) (q n phase client k : ℕ) (commands : List Command) (d : Actor) (before : List Actor)
    (done : List Done) (after : List Actor) → RunsFrom s phase client k commands before done after
    → n < length before → stages (get_or before n d).facts ≡ q
    → Trace q n done (get_or before n d) (get_or after n d)
trace_from s q n phase client k [] d before done after x low e =
    subst (λ (l : List Done). Trace q n l (get_or before n d) (get_or after n d)) (sym x.0)
    (ap (λ (l : List Actor). get_or l n d) x.1)
trace_from s q n phase client k (c ∷ commands) d before [] after x low e = absurd x
trace_from s q n phase client k (c ∷ commands) d before (y ∷ done) after (mid, one, rest) low e =
    let step = done_step s q n c y d before mid one low e in
    let long = done_long s c y before mid one in (
      get_or mid n d,
      step,
      trace_from s q n phase client (k + 1) commands d mid done after rest (omega (arith, low, long))
          (ap stages (step_facts step) ∙ e),
    )
