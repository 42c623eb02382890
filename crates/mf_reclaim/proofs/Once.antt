-- Where the whole state is told, a reclaim has one result.
use Rattle.std.proofs.Common.{◌≡◌, ◌≢◌, ℕ, ◌+◌, Bool, List, [], ◌∷◌, ◌++◌, length, filter, Some, refl, sym, ap, ◌∙◌}
use Rattle.std.proofs.Common.{subst, arith}
use Rattle.mf_machine.specs.declared.answer.Closed.{Closed}
use Rattle.mf_machine.specs.declared.answer.Slot.TheVariants.{Work}
use Rattle.mf_machine.specs.Worlds.{World}
use Rattle.mf_places.specs.declared.Name.{Name}
use Rattle.mf_vault.specs.declared.answers.Pinned.{Pinned}
use Rattle.mf_vault.specs.declared.answers.Pinned.TheVariants.{At, Absent, Removed}
use Rattle.mf_vault.specs.Facts.{Facts, stages}
use Rattle.mf_vault.specs.Actor.{Actor, Call, did, onward, pin, unpin, close, discard}
use Rattle.mf_vault.specs.Licence.{Does, did_all}
use Rattle.mf_vault.specs.Answers.{Goes}
use Rattle.mf_vault.proofs.Once.{one_answer}
use Rattle.mf_reclaim.specs.declared.outcome.ReclaimOutcome.{ReclaimOutcome}
use Rattle.mf_reclaim.specs.declared.outcome.ReclaimOutcome.TheVariants as outcome
use Rattle.mf_reclaim.specs.Reclaim as licence
use Rattle.mf_reclaim.specs.Reclaim.{IsReclaim, Reclaims, Learns, closes, discards, free_names, is_done, count_true}
use Rattle.mf_reclaim.specs.Reclaim.{pins_from}
use Rattle.mf_reclaim.specs.Laws.{ReclaimsOnce}

-- the first call, and the others
first : {c : Call} {cs : List Call} {a b : Actor} → Does (c ∷ cs) a b → Goes c a (did c a)
first d = record { becomes = refl; fair = d.fair.0; told = d.told.0 }

rest : {c : Call} {cs : List Call} {a b : Actor} → Does (c ∷ cs) a b → Does cs (did c a) b
rest d = record { becomes = d.becomes; fair = d.fair.1; told = d.told.1 }

-- what follows a call that two lists share
rest_of : {c d : Call} {ds : List Call} {a b : Actor} → c ≡ d → Does (d ∷ ds) a b → Does ds (did c a) b
rest_of {ds = ds} {a = a} {b = b} e x = subst (λ k. Does ds (did k a) b) (sym e) (rest x)

-- the same calls lead to the same actor
same : {cs ds : List Call} {a b c : Actor} → cs ≡ ds → Does cs a b → Does ds a c → b ≡ c
same {a = a} e x y = x.becomes ∙ (ap (λ l. did_all l a) e ∙ sym y.becomes)

-- the whole state goes on being told
goes_on : (c : Call) (a : Actor) {w : World} → a.whole ≡ Some w → (v : World) × ((did c a).whole ≡ Some v)
goes_on c a e = (_, ap (onward _) e)

-- the closes and the discards of two lists
changed_once : (xs : List Name) (bs ds : List Bool) {a b c : Actor} (w : World) → length bs ≡ length xs
    → length ds ≡ length xs → a.whole ≡ Some w → Does (discards xs bs) a b → Does (discards xs ds) a c → bs ≡ ds
changed_once [] [] [] w m n e x y = refl
changed_once [] [] (t ∷ ds) w m n e x y = absurd (omega arith)
changed_once [] (s ∷ bs) ds w m n e x y = absurd (omega arith)
changed_once (z ∷ xs) [] ds w m n e x y = absurd (omega arith)
changed_once (z ∷ xs) (s ∷ bs) [] w m n e x y = absurd (omega arith)
changed_once (z ∷ xs) (s ∷ bs) (t ∷ ds) {a = a} w m n e x y =
    let answer = one_answer.discard a _ _ w z s t e (first x) (first y) in
    let on = goes_on (discard z s) a e in
    let others = changed_once xs bs ds on.0 (omega arith) (omega arith) on.1 (rest x)
    (rest_of (ap (discard z) answer) y) in
    (λ j. answer j ∷ others j)

-- behind the closes of all answers, what is left is told too
record Behind (g : ℕ) (cs : List Closed) (r q : List Call) (a b c : Actor) : Type 0 where
  pub now : Actor
  pub world : World
  pub told : now.whole ≡ Some world
  pub facts : now.facts ≡ a.facts
  pub left : Does r now b
  pub right : Does q now c

answers_once : (g : ℕ) (cs ds : List Closed) (r q : List Call) {a b c : Actor} (w : World) → length cs ≡ length ds
    → a.whole ≡ Some w → Does (closes g cs ++ r) a b → Does (closes g ds ++ q) a c → (cs ≡ ds) × Behind g cs r q a b c
answers_once g [] [] r q {a = a} w m e x y =
    (refl, record { now = a; world = w; told = e; facts = refl; left = x; right = y })
answers_once g [] (d ∷ ds) r q w m e x y = absurd (omega arith)
answers_once g (c ∷ cs) [] r q w m e x y = absurd (omega arith)
answers_once g (c ∷ cs) (d ∷ ds) r q {a = a} w m e x y =
    let answer = one_answer.close a _ _ w g c d e (first x) (first y) in
    let on = goes_on (close g c) a e in
    let others = answers_once (g + 1) cs ds r q on.0 (omega arith) on.1 (rest x) (rest_of (ap (close g) answer) y) in
    let k = others.1 in (
      (λ j. answer j ∷ others.0 j),
      record {
        now = k.now;
        world = k.world;
        told = k.told;
        facts = k.facts;
        left = k.left;
        right = k.right;
      },
    )

-- two pins are the same
pins : {gs hs : List ℕ} {p q : Pinned} {cs ds : List Call} {a b c : Actor} {w : World} → a.whole ≡ Some w
    → Does (pin Work gs p ∷ cs) a b → Does (pin Work hs q ∷ ds) a c → (gs ≡ hs) × (p ≡ q)
pins {gs = gs} {hs = hs} {p = p} {q = q} {a = a} {w = w} e x y = one_answer.pin a _ _ w Work gs hs p q e (first x)
    (first y)

at_absent : (g : ℕ) → At g ≡ Absent → ⊥
at_absent g e = let z : At g ≡ Absent = e in cc

at_removed : (g : ℕ) → At g ≡ Removed → ⊥
at_removed g e = let z : At g ≡ Removed = e in cc

removed_absent : Removed ≡ Absent → ⊥
removed_absent e = let z : Removed ≡ Absent = e in cc

at_same : (g h : ℕ) → At g ≡ At h → g ≡ h
at_same g h e = let z : At g ≡ At h = e in let y : g ≡ h = cc in y

-- the published number is learnt once, and behind it is one actor
record Learns2 (m n : ℕ) (xs ys r q : List Call) (a b c : Actor) : Type 0 where
  pub end : m ≡ n
  pub calls : xs ≡ ys
  pub now : Actor
  pub world : World
  pub told : now.whole ≡ Some world
  pub facts : now.facts ≡ a.facts
  pub left : Does r now b
  pub right : Does q now c

learns_once : {f : Facts} {m n : ℕ} {xs ys : List Call} (r q : List Call) {a b c : Actor} (w : World) → Learns f m xs
    → Learns f n ys → a.whole ≡ Some w → Does (xs ++ r) a b → Does (ys ++ q) a c → Learns2 m n xs ys r q a b c
learns_once r q {a = a} {c = c} w (licence.published gs g) (licence.published hs h) e x y =
    let k = pins e x y in
    let on = goes_on (pin Work gs (At g)) a e in
    let far = goes_on (unpin Work) (did (pin Work gs (At g)) a) on.1 in
    record {
      end = at_same g h k.1;
      calls = (λ j. pin Work (k.0 j) (k.1 j) ∷ unpin Work ∷ []);
      now = did (unpin Work) (did (pin Work gs (At g)) a);
      world = far.0;
      told = far.1;
      facts = refl;
      left = rest (rest x);
      right = rest (rest_of (λ j. pin Work (k.0 j) (k.1 j)) y);
    }
learns_once r q w (licence.published gs g) (licence.removed hs) e x y = absurd (at_removed g (pins e x y).1)
learns_once r q w (licence.removed gs) (licence.published hs h) e x y = absurd (at_removed h (sym (pins e x y).1))
learns_once r q {a = a} w (licence.removed gs) (licence.removed hs) e x y =
    let k = pins e x y in
    let on = goes_on (pin Work gs Removed) a e in
    record {
      end = refl;
      calls = (λ j. pin Work (k.0 j) Removed ∷ []);
      now = did (pin Work gs Removed) a;
      world = on.0;
      told = on.1;
      facts = refl;
      left = rest x;
      right = rest_of (λ j. pin Work (k.0 j) Removed) y;
    }

not_absent : {f : Facts} {m : ℕ} {xs : List Call} {ms : List ℕ} (r : List Call) {a b c : Actor} {w : World}
    → Learns f m xs
    → a.whole ≡ Some w → Does (xs ++ r) a b → Does (pin Work ms Absent ∷ []) a c → ⊥
not_absent r (licence.published gs g) e x y = at_absent g (pins e x y).1
not_absent r (licence.removed gs) e x y = removed_absent (pins e x y).1

both : (f : Facts) (xs ys : List Call) (cs ds : List Closed) (bs es : List Bool) {a b c : Actor} {w : World}
    → Learns f (length cs) xs → Learns f (length ds) ys → length bs ≡ length (free_names f.book cs)
    → length es ≡ length (free_names f.book ds) → a.whole ≡ Some w
    → Does (xs ++ (closes 0 cs ++ discards (free_names f.book cs) bs)) a b
    → Does (ys ++ (closes 0 ds ++ discards (free_names f.book ds) es)) a c
    → (xs ≡ ys) × (cs ≡ ds) × (bs ≡ es)
both f xs ys cs ds bs es {c = c} {w = w} lx ly m n e x y =
    let l = learns_once (closes 0 cs ++ discards (free_names f.book cs) bs) (closes 0 ds ++ discards
    (free_names f.book ds) es)
    w lx ly e x y in
    let k = answers_once 0 cs ds (discards (free_names f.book cs) bs) (discards
    (free_names f.book ds) es) l.world l.end l.told
    l.left l.right in
    let b = k.1 in (
      l.calls,
      k.0,
      changed_once (free_names f.book cs) bs es b.world m
          (subst (λ u. length es ≡ length (free_names f.book u)) (sym k.0) n) b.told b.left
          (subst (λ u. Does (discards (free_names f.book u) es) b.now c) (sym k.0) b.right),
    )

reclaims : (f : Facts) {o p : ReclaimOutcome} {xs ys : List Call} {a b c : Actor} {w : World} → IsReclaim f o xs
    → IsReclaim f p ys → a.whole ≡ Some w → Does xs a b → Does ys a c → o ≢ outcome.Memory → p ≢ outcome.Memory
    → (o ≡ p) × (b ≡ c)
reclaims f licence.no_memory q e x y n m = absurd (n refl)
reclaims f (licence.absent gs) licence.no_memory e x y n m = absurd (m refl)
reclaims f (licence.absent gs) (licence.absent hs) e x y n m = let k = pins e x y in
    (refl, same (λ j. pin Work (k.0 j) Absent ∷ []) x y)
reclaims f (licence.absent gs) (licence.reclaimed ys ds es ly k) e x y n m =
    absurd (not_absent (closes 0 ds ++ discards (free_names f.book ds) es) ly e y x)
reclaims f (licence.reclaimed xs cs bs lx k) licence.no_memory e x y n m = absurd (m refl)
reclaims f (licence.reclaimed xs cs bs lx k) (licence.absent hs) e x y n m =
    absurd (not_absent (closes 0 cs ++ discards (free_names f.book cs) bs) lx e x y)
reclaims f (licence.reclaimed xs cs bs lx k) (licence.reclaimed ys ds es ly l) e x y n m =
    let s = both f xs ys cs ds bs es lx ly k l e x y in (
      (λ j. outcome.Reclaimed (length (filter is_done (s.1 j))) (count_true (s.2 j)) (pins_from 0 (s.1 j))),
      same (λ j. s.0 j ++ (closes 0 (s.1 j) ++ discards (free_names f.book (s.1 j)) (s.2 j))) x y,
    )

pub reclaims_once : ReclaimsOnce
reclaims_once a b c w o p e x y n m = reclaims a.facts x.licence y.licence e x.does y.does n m
