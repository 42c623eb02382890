-- Discards in turn.
use Rattle.std.proofs.Common.{◌≡◌, ℕ, ◌+◌, ◌<◌, ◌≤◌, ◌||◌, Bool, true, false, not, cond, List, [], ◌∷◌, ◌++◌, length}
use Rattle.std.proofs.Common.{get_or}
use Rattle.std.proofs.Common.{filter, take, refl, sym, ap, ◌∙◌, subst, arith, length-append}
use Rattle.std.specs.List.{range_with_len}
use Rattle.std.proofs.lemmas.Bool.{false≢true}
use Rattle.std.proofs.lemmas.List.Sums.{AllPass-from_list_all}
use Rattle.std.proofs.lemmas.List.Elements.{All-get_or}
use Rattle.std.proofs.lemmas.List.FromFn.{get_or-range_with_len, length-range_with_len}
use Rattle.mf_machine.specs.declared.answer.Closed.{Closed}
use Rattle.mf_machine.specs.Actors.{Shown}
use Rattle.mf_places.specs.declared.Name.{Name}
use Rattle.mf_places.specs.Facts.{BookFacts}
use Rattle.mf_places.specs.Generations.{holds}
use Rattle.mf_places.specs.Names.{HasName, all_names, count_of, name_at}
use Rattle.mf_places.proofs.Names.{filter-keeps, filter-drops, filter-all, number_of-name_at}
use Rattle.mf_vault.specs.Facts.{Facts, number, stages}
use Rattle.mf_vault.specs.Actor.{Actor, discard, did}
use Rattle.mf_vault.specs.Answers.{Goes}
use Rattle.mf_vault.specs.Conditions.{IsIdle, Leaves}
use Rattle.mf_vault.specs.Licence.{Does}
use Rattle.mf_vault.specs.May.{MayDiscard}
use Rattle.mf_vault.proofs.Doing.{more, facts_stay}
use Rattle.mf_vault.proofs.Held.{held_is}
use Rattle.mf_reclaim.specs.Reclaim.{discards, is_free, free_names, was_shut, count_true}
use Rattle.mf_reclaim.specs.Collecting.{AreShown, Discards}
use Rattle.mf_reclaim.proofs.Closings.{leaves_then}

-- each generation that holds a free name was answered Done or Already
by_holding : (h s : Bool) → (not h || s) ≡ true → h ≡ true → s ≡ true
by_holding true s e h = e
by_holding false s e h = absurd (false≢true h)

pub free_shut : (b : BookFacts) (answers : List Closed) (x : Name) (g : ℕ) → is_free b answers x ≡ true
    → g < length b.shape.stages → holds b g x ≡ true → was_shut answers g ≡ true
free_shut b answers x g free low held =
    let q = length b.shape.stages in
    let test = λ (k : ℕ). not (holds b k x) || was_shut answers k in
    let at = get_or-range_with_len 0 q g 0 low in
    let n = length-range_with_len 0 q in
    let all = AllPass-from_list_all test (range_with_len 0 q) free in
    let here = All-get_or (λ k. test k ≡ true) (range_with_len 0 q) g 0 (omega arith) all in
    by_holding (holds b g x) (was_shut answers g) (subst (λ k. test k ≡ true) (let z : get_or
    (range_with_len 0 q) g 0 ≡ g = omega arith in z) here) held

pub may_discard : (answers : List Closed) (x : Name) (a : Actor) → HasName a.facts.book x
    → is_free a.facts.book answers x ≡ true → AreShown answers a → MayDiscard x a
may_discard answers x a had free shown = (
  had,
  λ g low h. shown g (free_shut a.facts.book answers x g free low
      (held_is a.facts g x had h)),
)

discard_leaves : (x : Name) (b : Bool) (a : Actor) → IsIdle a → Leaves a (did (discard x b) a)
discard_leaves x true a i = record {
  idle = record { right = i.right; work = i.work };
  facts = refl;
  hold = refl;
  cut
      = refl;
}
discard_leaves x false a i = record {
  idle = record { right = i.right; work = i.work };
  facts = refl;
  hold = refl;
  cut = refl;
}

pub leaves_discarded : {x : Name} {r : Bool} {a b d : Actor} → Leaves a b → Goes (discard x r) b d → Leaves a d
leaves_discarded {x = x} {r = r} {a = a} {b = b} l y =
    leaves_then l (subst (λ (z : Actor). Leaves b z) (sym y.becomes) (discard_leaves x r b l.idle))

shown_on : (answers : List Closed) (x : Name) (r : Bool) (a : Actor) → AreShown answers a
    → AreShown answers (did (discard x r) a)
shown_on answers x true a s = s
shown_on answers x false a s = s

pub shown_discarded : (answers : List Closed) {x : Name} {r : Bool} {a b : Actor} → AreShown answers a
    → Goes (discard x r) a b → AreShown answers b
shown_discarded answers {x = x} {r = r} {a = a} s y =
    subst (λ (z : Actor). AreShown answers z) (sym y.becomes) (shown_on answers x r a s)

discards_more : (xs : List Name) (bs : List Bool) (x : Name) (b : Bool) → length bs ≡ length xs
    → discards (xs ++ x ∷ []) (bs ++ b ∷ []) ≡ discards xs bs ++ discard x b ∷ []
discards_more [] [] x b e = refl
discards_more [] (c ∷ bs) x b e = absurd (omega arith)
discards_more (y ∷ xs) [] x b e = absurd (omega arith)
discards_more (y ∷ xs) (c ∷ bs) x b e = ap (λ l. discard y c ∷ l) (discards_more xs bs x b (omega arith))

count_more : (bs : List Bool) (b : Bool) → count_true (bs ++ b ∷ []) ≡ count_true bs + cond b 1 0
count_more [] true = refl
count_more [] false = refl
count_more (true ∷ bs) b = let r = count_more bs b in omega arith
count_more (false ∷ bs) b = count_more bs b

-- the free names among the first n were discarded
pub record Discarding (answers : List Closed) (n dropped : ℕ) (a b : Actor) : Type 0 where
  pub changed : List Bool
  pub long : length changed ≡ length (filter (is_free a.facts.book answers) (take n (all_names a.facts.book)))
  pub count : dropped ≡ count_true changed
  pub few : dropped ≤ n
  pub does : Does (discards (filter (is_free a.facts.book answers) (take n (all_names a.facts.book))) changed) a b

pub discarding_none : (answers : List Closed) (a : Actor) → Discarding answers 0 0 a a
discarding_none answers a = record {
  changed = [];
  long = refl;
  count = refl;
  few = omega arith;
  does = record { becomes = refl; fair = tt; told = tt };
}

pub discarding_more : {answers : List Closed} {n dropped next : ℕ} {r : Bool} {a b d : Actor} (x : Name)
    → Discarding answers n dropped a b → n < count_of a.facts.book → x ≡ name_at a.facts.book n
    → is_free a.facts.book answers x ≡ true → next ≡ dropped + cond r 1 0 → Goes (discard x r) b d
    → Discarding answers (n + 1) next a d
discarding_more {answers = answers} {n = n} {dropped = dropped} {next = next} {r = r} {a = a} {b = b} {d = d} x k low
    at free e g =
    let p = is_free a.facts.book answers in
    let so_far = filter p (take n (all_names a.facts.book)) in
    let names = filter-keeps a.facts.book p n x low at free in
    let calls : Does (discards so_far k.changed ++ discard x r ∷ []) a d = more k.does g in
    record {
      changed = k.changed ++ r ∷ [];
      long = length-append k.changed (r ∷ []) ∙ (ap (λ m. m + 1) k.long
          ∙ (sym (length-append so_far (x ∷ [])) ∙ ap length (sym names)));
      count = e ∙ (ap (λ m. m + cond r 1 0) k.count ∙ sym (count_more k.changed r));
      few = few r k.few e;
      does = subst (λ l. Does (discards l (k.changed ++ r ∷ [])) a d) (sym names)
          (subst (λ l. Does l a d) (sym (discards_more so_far k.changed x r k.long)) calls);
    }
  where
    few : (r : Bool) → dropped ≤ n → next ≡ dropped + cond r 1 0 → next ≤ n + 1
    few true h e = omega arith
    few false h e = omega arith

pub discarding_less : {answers : List Closed} {n dropped : ℕ} {a b : Actor} (x : Name)
    → Discarding answers n dropped a b → n < count_of a.facts.book → x ≡ name_at a.facts.book n
    → is_free a.facts.book answers x ≡ false → Discarding answers (n + 1) dropped a b
discarding_less {answers = answers} {n = n} {a = a} {b = b} x k low at held =
    let p = is_free a.facts.book answers in
    let names = filter-drops a.facts.book p n x low at held in
    let few = k.few in
    record {
      changed = k.changed;
      long = k.long ∙ ap length (sym names);
      count = k.count;
      few = omega arith;
      does = subst (λ l. Does (discards l k.changed) a b) (sym names) k.does;
    }

pub discarding_all : {answers : List Closed} {n dropped : ℕ} {a b : Actor} → Discarding answers n dropped a b
    → count_of a.facts.book ≤ n → Discards answers dropped a b
discarding_all {answers = answers} {n = n} {a = a} {b = b} k high =
    let p = is_free a.facts.book answers in
    let names = filter-all a.facts.book p n high in
    record {
      changed = k.changed;
      long = k.long ∙ ap length names;
      count = k.count;
      does = subst (λ l. Does (discards l k.changed) a b) names k.does;
    }
