-- What a move enters into its actor's Met, Seen and Made, by its answer.
use Rattle.std.proofs.Common.{◌≡◌, ◌≢◌, ◌⊎◌, ℕ, ◌+◌, ◌<◌, ◌≤◌, cond, List, [], ◌∷◌, sym, refl, ap, ◌∙◌, subst, ⊎_elim}
use Rattle.std.proofs.Common.{inl, inr, arith, eq-eqb, ne_eqb, Option, Some, None}
use Rattle.std.proofs.lemmas.Option.{none-some, same_Some}
use mathlib.Core.Logic.{dite}
use mathlib.Core.Option.{some}
use native.Mathlib.Decide.{ℕ_discrete}
use lib.ListN.{get_elem?}
use Rattle.mf_machine.specs.declared.view.Loss.{Loss}
use Rattle.mf_machine.specs.declared.view.Made.{Made}
use Rattle.mf_machine.specs.declared.view.Met.{Met}
use Rattle.mf_machine.specs.declared.view.Seen.{Seen}
use Rattle.mf_machine.specs.declared.view.View.{View}
use Rattle.mf_machine.specs.Answers.{Answer, number, begun, refused, opened, missed, closed, already, pinned, unborn}
use Rattle.mf_machine.specs.Answers.{here, lost, put, restored, made_lost, dropped, not_lost, not_dropped, often, makes}
use Rattle.mf_machine.specs.Answers.{IsChange, Shows}
use Rattle.mf_machine.specs.Counts.{bit, times, lines}
use Rattle.mf_machine.specs.Laws.{GoesOn, met_sum, SeenHas, Enters}
use Rattle.mf_machine.proofs.Lists.{bit_is, bit_not, times_cons, times_here, times_else, lines_here, lines_cons}

-- the Met with one more answer, what Seen then has, and what Made then has
abbrev pub enter : Answer → Met → Met
enter (number n) m = record m { numbers = n ∷ m.numbers }
enter begun m = record m { begun = m.begun + 1 }
enter refused m = record m { refused = m.refused + 1 }
enter (opened g) m = record m { opened = g ∷ m.opened }
enter (missed g) m = record m { missed = g ∷ m.missed }
enter (closed g) m = record m { closed = g ∷ m.closed }
enter (already g) m = record m { already = g ∷ m.already }
enter (pinned g p o) m = record m { pinned = (record { generation = g; pins = p; own = o }) ∷ m.pinned }
enter (unborn n) m = record m { unborn = n ∷ m.unborn }
enter (here n) m = record m { here = n ∷ m.here }
enter (lost n l) m = record m { lost = (record { name = n; line = l }) ∷ m.lost }
enter (put n) m = record m { put = n ∷ m.put }
enter (restored n) m = record m { restored = n ∷ m.restored }
enter (made_lost n l) m = record m { made_lost = (record { name = n; line = l }) ∷ m.made_lost }
enter (dropped n) m = record m { dropped = n ∷ m.dropped }
enter (not_lost n) m = record m { not_lost = n ∷ m.not_lost }
enter (not_dropped n) m = record m { not_dropped = n ∷ m.not_dropped }

abbrev pub show : Answer → Seen → Seen
show (number n) s = record s { number = n }
show (missed g) s = record s { shut = g ∷ s.shut }
show (closed g) s = record s { shut = g ∷ s.shut }
show (already g) s = record s { shut = g ∷ s.shut }
show (here n) s = record s { born = n ∷ s.born }
show (lost n l) s = record s { born = n ∷ s.born }
show (put n) s = record s { born = n ∷ s.born }
show (restored n) s = record s { born = n ∷ s.born }
show (dropped n) s = record s { dropped = n ∷ s.dropped }
show a s = s

abbrev pub make : Answer → Made → Made
make (closed g) m = record m { closings = g ∷ m.closings }
make (put n) m = record m { changes = record m.changes { put = n ∷ m.changes.put } }
make (restored n) m = record m { changes = record m.changes { restored = n ∷ m.changes.restored } }
make (made_lost n l) m = record m
    { changes = record m.changes { lost = (record { name = n; line = l }) ∷ m.changes.lost } }
make (dropped n) m = record m { changes = record m.changes { dropped = n ∷ m.changes.dropped } }
make a m = m

-- what is in the Met with one more answer is that answer, or was there
lines_else : (n l m j : ℕ) (xs : List Loss) → (n ≡ m → l ≡ j → ⊥) → lines m j ((record { name = n; line = l }) ∷ xs) ≡
    lines m j xs
lines_else n l m j xs ne = dite (ℕ_discrete n m)
    (λ e. (λ i. cond (eq-eqb n m e i) (bit l j) 0 + lines m j xs) ∙ (let z = bit_not l j (ne e) in omega arith))
    (λ d. (λ i. cond (ne_eqb n m d i) (bit l j) 0 + lines m j xs) ∙ (let z : ℕ = lines m j xs in
    let e : 0 + z ≡ z = omega arith in e))

one_refusal : (g p o h q r : ℕ) → (g ≡ h → p ≡ q → o ≡ r → ⊥) → cond (Rattle.std.proofs.Common.eqb g h)
    (cond (Rattle.std.proofs.Common.eqb p q) (bit o r) 0) 0 ≡ 0
one_refusal g p o h q r ne = dite (ℕ_discrete g h)
    (λ e. (λ i. cond (eq-eqb g h e i) (cond (Rattle.std.proofs.Common.eqb p q) (bit o r) 0) 0) ∙ dite (ℕ_discrete p q)
    (λ d. (λ i. cond (eq-eqb p q d i) (bit o r) 0) ∙ bit_not o r (ne e d)) (λ d. λ i. cond (ne_eqb p q d i)
    (bit o r) 0))
    (λ d. λ i. cond (ne_eqb g h d i) (cond (Rattle.std.proofs.Common.eqb p q) (bit o r) 0) 0)

same_refusal : (g p o : ℕ) → cond (Rattle.std.proofs.Common.eqb g g) (cond (Rattle.std.proofs.Common.eqb p p)
    (bit o o) 0) 0 ≡ 1
same_refusal g p o = (λ i. cond (eq-eqb g g refl i) (cond (Rattle.std.proofs.Common.eqb p p) (bit o o) 0) 0) ∙
    ((λ i. cond (eq-eqb p p refl i) (bit o o) 0) ∙ bit_is o o refl)

pub often_here : (a : Answer) (m : Met) → often a (enter a m) ≡ often a m + 1
often_here (number n) m = let z = times_here n m.numbers in omega arith
often_here begun m = refl
often_here refused m = refl
often_here (opened g) m = let z = times_here g m.opened in omega arith
often_here (missed g) m = let z = times_here g m.missed in omega arith
often_here (closed g) m = let z = times_here g m.closed in omega arith
often_here (already g) m = let z = times_here g m.already in omega arith
often_here (pinned g p o) m = let z = same_refusal g p o in omega arith
often_here (unborn n) m = let z = times_here n m.unborn in omega arith
often_here (here n) m = let z = times_here n m.here in omega arith
often_here (lost n l) m = let z = lines_here n l m.lost in omega arith
often_here (put n) m = let z = times_here n m.put in omega arith
often_here (restored n) m = let z = times_here n m.restored in omega arith
often_here (made_lost n l) m = let z = lines_here n l m.made_lost in omega arith
often_here (dropped n) m = let z = times_here n m.dropped in omega arith
often_here (not_lost n) m = let z = times_here n m.not_lost in omega arith
often_here (not_dropped n) m = let z = times_here n m.not_dropped in omega arith

pub often_else : (a b : Answer) (m : Met) → a ≢ b → often b (enter a m) ≡ often b m
often_else (number n) (number k) m ne = times_else k n m.numbers (λ e. ne (ap number (sym e)))
often_else begun begun m ne = absurd (ne refl)
often_else refused refused m ne = absurd (ne refl)
often_else (opened n) (opened k) m ne = times_else k n m.opened (λ e. ne (ap opened (sym e)))
often_else (missed n) (missed k) m ne = times_else k n m.missed (λ e. ne (ap missed (sym e)))
often_else (closed n) (closed k) m ne = times_else k n m.closed (λ e. ne (ap closed (sym e)))
often_else (already n) (already k) m ne = times_else k n m.already (λ e. ne (ap already (sym e)))
often_else (pinned g p o) (pinned h q r) m ne = let z = one_refusal g p o h q r
    (λ a b c. ne (λ i. pinned (a i) (b i) (c i))) in omega arith
often_else (unborn n) (unborn k) m ne = times_else k n m.unborn (λ e. ne (ap unborn (sym e)))
often_else (here n) (here k) m ne = times_else k n m.here (λ e. ne (ap here (sym e)))
often_else (lost n l) (lost k j) m ne = lines_else n l k j m.lost (λ a b. ne (λ i. lost (a i) (b i)))
often_else (put n) (put k) m ne = times_else k n m.put (λ e. ne (ap put (sym e)))
often_else (restored n) (restored k) m ne = times_else k n m.restored (λ e. ne (ap restored (sym e)))
often_else (made_lost n l) (made_lost k j) m ne = lines_else n l k j m.made_lost
    (λ a b. ne (λ i. made_lost (a i) (b i)))
often_else (dropped n) (dropped k) m ne = times_else k n m.dropped (λ e. ne (ap dropped (sym e)))
often_else (not_lost n) (not_lost k) m ne = times_else k n m.not_lost (λ e. ne (ap not_lost (sym e)))
often_else (not_dropped n) (not_dropped k) m ne = times_else k n m.not_dropped (λ e. ne (ap not_dropped (sym e)))
often_else a b m ne = refl

-- what stands in the Met with one more answer is that answer, or stood there
pub often_from : (a b : Answer) (m : Met) (P : Type 0) → (a ≡ b → P) → (0 < often b m → P) → 0 < often b (enter a m) → P
often_from (number n) (number k) m P is other h = times_cons k n m.numbers P (λ e. is (ap number (sym e))) other h
often_from begun begun m P is other h = is refl
often_from refused refused m P is other h = is refl
often_from (opened n) (opened k) m P is other h = times_cons k n m.opened P (λ e. is (ap opened (sym e))) other h
often_from (missed n) (missed k) m P is other h = times_cons k n m.missed P (λ e. is (ap missed (sym e))) other h
often_from (closed n) (closed k) m P is other h = times_cons k n m.closed P (λ e. is (ap closed (sym e))) other h
often_from (already n) (already k) m P is other h = times_cons k n m.already P (λ e. is (ap already (sym e))) other h
often_from (unborn n) (unborn k) m P is other h = times_cons k n m.unborn P (λ e. is (ap unborn (sym e))) other h
often_from (here n) (here k) m P is other h = times_cons k n m.here P (λ e. is (ap here (sym e))) other h
often_from (put n) (put k) m P is other h = times_cons k n m.put P (λ e. is (ap put (sym e))) other h
often_from (restored n) (restored k) m P is other h = times_cons k n m.restored P (λ e. is (ap restored (sym e))) other
    h
often_from (dropped n) (dropped k) m P is other h = times_cons k n m.dropped P (λ e. is (ap dropped (sym e))) other h
often_from (not_lost n) (not_lost k) m P is other h = times_cons k n m.not_lost P (λ e. is (ap not_lost (sym e))) other
    h
often_from (not_dropped n) (not_dropped k) m P is other h = times_cons k n m.not_dropped P
    (λ e. is (ap not_dropped (sym e))) other h
often_from (lost n l) (lost k j) m P is other h = lines_cons k j (record { name = n; line = l }) m.lost P
    (λ a b. is (λ i. lost (sym a i) (sym b i))) other h
often_from (made_lost n l) (made_lost k j) m P is other h = lines_cons k j (record { name = n; line = l }) m.made_lost P
    (λ a b. is (λ i. made_lost (sym a i) (sym b i))) other h
often_from (pinned g p o) (pinned k q r) m P is other h = dite (ℕ_discrete g k) (λ a. dite (ℕ_discrete p q)
    (λ b. dite (ℕ_discrete o r)
    (λ c. is (λ i. pinned (a i) (b i) (c i))) (λ ne. other (let z = one_refusal g p o k q r (λ a b c. ne c) in
    omega arith)))
    (λ ne. other (let z = one_refusal g p o k q r (λ a b c. ne b) in omega arith)))
    (λ ne. other (let z = one_refusal g p o k q r (λ a b c. ne a) in omega arith))
often_from a b m P is other h = other h

-- how often a change is made is how often it is answered
pub made_as_often : (b a : Answer) (made : Made) (m : Met) → IsChange b → makes b (make a made) + often b m ≡ makes b
    made + often b (enter a m)
made_as_often (closed k) (closed g) made m is = omega arith
made_as_often (closed k) a made m is = refl
made_as_often (put k) (put n) made m is = omega arith
made_as_often (put k) a made m is = refl
made_as_often (restored k) (restored n) made m is = omega arith
made_as_often (restored k) a made m is = refl
made_as_often (made_lost k j) (made_lost n l) made m is = omega arith
made_as_often (made_lost k j) a made m is = refl
made_as_often (dropped k) (dropped n) made m is = omega arith
made_as_often (dropped k) a made m is = refl
made_as_often b a made m is = absurd is

-- what is made stays so
pub makes_on : (a b : Answer) (m : Made) → makes b m ≤ makes b (make a m)
makes_on (closed g) (closed k) m = omega arith
makes_on (put n) (put k) m = omega arith
makes_on (restored n) (restored k) m = omega arith
makes_on (made_lost n l) (made_lost k j) m = omega arith
makes_on (dropped n) (dropped k) m = omega arith
makes_on a b m = omega arith

-- a number that is told isn't lower than one seen before
abbrev pub Higher : Answer → Seen → Type 0
Higher (number n) s = s.number ≤ n
Higher a s = Unit {0}

-- what Seen has stays
pub shut_on : (a : Answer) (s : Seen) (g : ℕ) → times g s.shut ≤ times g (show a s).shut
shut_on (missed k) s g = omega arith
shut_on a s g = omega arith

pub born_on : (a : Answer) (s : Seen) (n : ℕ) → times n s.born ≤ times n (show a s).born
born_on (here k) s n = omega arith
born_on a s n = omega arith

pub dropped_on : (a : Answer) (s : Seen) (n : ℕ) → times n s.dropped ≤ times n (show a s).dropped
dropped_on (dropped k) s n = omega arith
dropped_on a s n = omega arith

pub number_on : (a : Answer) (s : Seen) → Higher a s → s.number ≤ (show a s).number
number_on (number n) s h = h
number_on a s h = omega arith

pub shows_on : (a : Answer) (s t : Seen) (m n : Made) → GoesOn s t m n → Shows a s → Shows a t
shows_on (number k) s t m n o h = let b = o.number in omega arith
shows_on (missed g) s t m n o h = let b = o.shut g in omega arith
shows_on (closed g) s t m n o h = let b = o.shut g in omega arith
shows_on (already g) s t m n o h = let b = o.shut g in omega arith
shows_on (here k) s t m n o h = let b = o.born k in omega arith
shows_on (lost k l) s t m n o h = let b = o.born k in omega arith
shows_on (put k) s t m n o h = let b = o.born k in omega arith
shows_on (restored k) s t m n o h = let b = o.born k in omega arith
shows_on (dropped k) s t m n o h = let b = o.dropped k in omega arith
shows_on a s t m n o h = tt

pub shows_it : (a : Answer) (s : Seen) → Shows a (show a s)
shows_it (number n) s = omega arith
shows_it (missed g) s = let z = times_here g s.shut in omega arith
shows_it (closed g) s = let z = times_here g s.shut in omega arith
shows_it (already g) s = let z = times_here g s.shut in omega arith
shows_it (here n) s = let z = times_here n s.born in omega arith
shows_it (lost n l) s = let z = times_here n s.born in omega arith
shows_it (put n) s = let z = times_here n s.born in omega arith
shows_it (restored n) s = let z = times_here n s.born in omega arith
shows_it (dropped n) s = let z = times_here n s.dropped in omega arith
shows_it a s = tt

-- what a move tells its actor: nothing, an answer, or the number that it published
pub data Tale : Type 0 where
  silence : Tale
  reply : Answer → Tale
  news : ℕ → Tale

-- what the answers of a view tell of
pub record Known : Type 0 where
  pub own : Met
  pub seen : Seen
  pub made : Made
  pub gone : List Met

abbrev pub known : View → Known
known v = record { own = v.own; seen = v.seen; made = v.made; gone = v.gone }

abbrev pub tell : Tale → Known → Known
tell silence q = q
tell (reply a) q = record q { own = enter a q.own; seen = show a q.seen; made = make a q.made }
tell (news n) q = record q {
  own = enter (number n) q.own;
  seen = show (number n) q.seen;
  made = record q.made
      { numbers = n ∷ q.made.numbers };
}

pub gone_left : (t : Tale) (q : Known) → (tell t q).gone ≡ q.gone
gone_left silence q = refl
gone_left t q = refl

abbrev pub answer_of : Tale → Option Answer
answer_of silence = None
answer_of (reply a) = Some a
answer_of (news n) = Some (number n)

abbrev pub Rises : Tale → Known → Type 0
Rises silence q = Unit {0}
Rises (reply a) q = Higher a q.seen
Rises (news n) q = q.seen.number ≤ n

-- what was seen and made stays
abbrev pub Goes : (q r : Known) → Type 0
Goes q r = GoesOn q.seen r.seen q.made r.made

pub goes_same : (q : Known) → Goes q q
goes_same q = record {
  number = omega arith;
  shut = λ g. omega arith;
  born = λ n. omega arith;
  dropped = λ n. omega
      arith;
  made = λ a. omega arith;
}

news_on : (a : Answer) (n : ℕ) (m : Made) → makes a m ≤ makes a (record m { numbers = n ∷ m.numbers })
news_on (number k) n m = omega arith
news_on a n m = omega arith

pub goes_on : (t : Tale) (q : Known) → Rises t q → Goes q (tell t q)
goes_on silence q h = goes_same q
goes_on (reply a) q h = record {
  number = number_on a q.seen h;
  shut = shut_on a q.seen;
  born = born_on a q.seen;
  dropped = dropped_on a q.seen;
  made = λ b. makes_on a b q.made;
}
goes_on (news n) q h = record {
  number = h;
  shut = λ g. omega arith;
  born = λ g. omega arith;
  dropped = λ g. omega
      arith;
  made = λ a. news_on a n q.made;
}

-- Seen has what a longer Met shows
pub has_on : (s t : Seen) (m n : Made) (c : Met) → GoesOn s t m n → SeenHas s c → SeenHas t c
has_on s t m n c o h a often_so = shows_on a s t m n o (h a often_so)

has_more : (a : Answer) (t : Seen) (c : Met) → SeenHas t c → Shows a t → SeenHas t (enter a c)
has_more a t c h shown b often_so = often_from a b c (Shows b t) (λ e. subst (λ z. Shows z t) e shown) (h b) often_so

-- an actor whose answers tell what it has seen and made
pub record Tells (q : Known) : Type 0 where
  pub own : SeenHas q.seen q.own
  pub gone : (i : ℕ) (m : Met) → get_elem? q.gone i ≡ some m → SeenHas q.seen m
  pub published : (n : ℕ) → times n q.made.numbers ≤ often (number n) q.own + met_sum (often (number n)) q.gone
  pub changed : (a : Answer) → IsChange a → makes a q.made ≡ often a q.own + met_sum (often a) q.gone

numbers_more : (a : Answer) (m : Met) (n : ℕ) → times n m.numbers ≤ times n (enter a m).numbers
numbers_more (number k) m n = omega arith
numbers_more a m n = omega arith

numbers_same : (a : Answer) (m : Made) → (make a m).numbers ≡ m.numbers
numbers_same (closed g) m = refl
numbers_same a m = refl

no_news : (a : Answer) (n : ℕ) (m : Made) (c : Met) → IsChange a
    → (makes a (record m { numbers = n ∷ m.numbers }) ≡ makes a m) × (often a (enter (number n) c) ≡ often a c)
no_news (number k) n m c is = absurd is
no_news a n m c is = (refl, refl)

-- a move keeps it so
pub tells_on : (t : Tale) (q : Known) → Rises t q → Tells q → Tells (tell t q)
tells_on silence q h r = r
tells_on (reply a) q h r = let o = goes_on (reply a) q h in record {
  own = has_more a (show a q.seen) q.own (has_on q.seen (show a q.seen) q.made (make a q.made) q.own o r.own)
      (shows_it a q.seen);
  gone = λ i m at. has_on q.seen (show a q.seen) q.made (make a q.made) m o (r.gone i m at);
  published = λ n. let e = ap (times n) (numbers_same a q.made) in let b = numbers_more a q.own n in
      let c = r.published n in omega arith;
  changed = λ b is. let e = made_as_often b a q.made q.own is in let c = r.changed b is in omega arith;
}
tells_on (news n) q h r = let o = goes_on (news n) q h in let s : Seen = show (number n) q.seen in
    let m : Made = record q.made { numbers = n ∷ q.made.numbers } in record {
      own = has_more (number n) s q.own (has_on q.seen s q.made m q.own o r.own) (shows_it (number n) q.seen);
      gone = λ i c at. has_on q.seen s q.made m c o (r.gone i c at);
      published = λ k. let c = r.published k in omega arith;
      changed = λ b is. let e = no_news b n q.made q.own is in let e₀ = e.0 in let e₁ = e.1 in let c = r.changed b is in
          omega arith;
    }

-- the Met has one more of the answer, and of no other
one_more : (a : Answer) (m : Met) → Enters (Some a) m (enter a m)
one_more a m b = (
  λ e. subst (λ z. often z (enter a m) ≡ often z m + 1) (same_Some a b e)
      (often_here a m),
  λ ne. often_else a b m (λ e. ne (ap Some e)),
)

pub enters_by : (t : Tale) (q : Known) → Enters (answer_of t) q.own (tell t q).own
enters_by silence q b = (λ e. absurd (none-some b e), λ ne. refl)
enters_by (reply a) q b = one_more a q.own b
enters_by (news n) q b = one_more (number n) q.own b
