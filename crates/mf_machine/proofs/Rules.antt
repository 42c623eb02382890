-- The ten rules follow from the rule as sums.
use Rattle.std.proofs.Common.{◌≡◌, ◌⊎◌, ℕ, zero, suc, ◌+◌, ◌<◌, ◌≤◌, List, [], ◌∷◌, sym, refl, subst, ⊎_elim, inl, inr}
use Rattle.std.proofs.Common.{arith}
use mathlib.Core.Logic.{dite}
use native.Mathlib.Decide.{ℕ_discrete, dec_le}
use Rattle.mf_machine.specs.declared.view.Met.{Met}
use Rattle.mf_machine.specs.declared.view.View.{View}
use Rattle.mf_machine.specs.Actors.{live}
use Rattle.mf_machine.specs.Answers.{Answer, often}
use Rattle.mf_machine.specs.Answers as answer
use Rattle.mf_machine.specs.Counts.{bit, truth, total}
use Rattle.mf_machine.specs.File.{File, Opening, State}
use Rattle.mf_machine.specs.Kept.{IsActor, IsClosed, HasSeen, HasTaken, IsMetOf, Number, Pins, Born, Seen, Builder}
use Rattle.mf_machine.specs.Kept.{Dropped, Cells, Accounted, Cause, Kept}
use Rattle.mf_machine.specs.Rest.{Rest}
use Rattle.mf_machine.specs.Ruled.{MetIs, Ruled}
use Rattle.mf_machine.specs.Sums.{adds, publishings, closings, puts, loses, loses_by, restores, drops, in_get, in_birth}
use Rattle.mf_machine.specs.Sums.{in_retake, in_lose, in_drop, raises, sinks, hides, lost_bit, Tally, tally}
use Rattle.mf_machine.proofs.Lists.{bit_is, bit_not, bit_eq, bit_le, truth_is, truth_true}
use Rattle.mf_machine.proofs.Totals.{total_none, total_at, total_two, total_some}
use Rattle.mf_machine.proofs.Frames.{shown_shut}
use Rattle.mf_machine.proofs.Pins.{shut_word}
use Rattle.mf_machine.proofs.Words.{bits_low, bits_lost, raises_parts, sinks_parts, hides_parts, lost_not}

-- a positive sum has a positive part
pub either : (a b : ℕ) → 0 < a + b → (0 < a) ⊎ (0 < b)
either zero b h = inr (omega arith)
either (suc a) b h = inl (omega arith)

pub lost_bit_is : (w : ℕ) → 0 < lost_bit w → 4 ≤ w
lost_bit_is w h = dite (dec_le 4 w) (λ l. l) (λ l. let z = lost_not w (omega arith) in absurd (omega arith))

-- all of a name's takers
takers : ℕ → View → ℕ
takers n v = in_get n v + in_birth n v + in_retake n v + in_lose n v + in_drop n v

takers_parts : (n : ℕ) (vs : List View)
    → total (takers n) vs ≡ total (in_get n) vs + total (in_birth n) vs + total (in_retake n) vs + total
    (in_lose n) vs + total (in_drop n) vs
unfolding takers
takers_parts n [] = refl
takers_parts n (v ∷ vs) = let r = takers_parts n vs in omega arith

takers_some : (n : ℕ) (v : View) → 0 < takers n v → HasTaken v n
unfolding takers
takers_some n v h = ⊎_elim (λ a. ⊎_elim (λ a. ⊎_elim (λ a. ⊎_elim (λ a. inl (bit_eq v.inside.getting (n + 1) a))
    (λ b. inr (inl (bit_eq v.inside.bearing (n + 1) b))) (either (in_get n v) (in_birth n v) a))
    (λ b. inr (inr (inl (bit_eq v.inside.retaking (n + 1) b)))) (either (in_get n v + in_birth n v) (in_retake n v) a))
    (λ b. inr (inr (inr (inl (bit_eq v.inside.losing (n + 1) b))))) (either (in_get n v + in_birth n v + in_retake n v)
    (in_lose n v) a))
    (λ b. inr (inr (inr (inr (bit_eq v.inside.dropping (n + 1) b)))))
    (either (in_get n v + in_birth n v + in_retake n v + in_lose n v)
    (in_drop n v) h)

some_takers : (n : ℕ) (v : View) → HasTaken v n → 0 < takers n v
unfolding takers
some_takers n v h = ⊎_elim (λ e. let b = bit_is v.inside.getting (n + 1) e in omega arith) (λ t. ⊎_elim
    (λ e. let b = bit_is v.inside.bearing (n + 1) e in
    omega arith) (λ t. ⊎_elim (λ e. let b = bit_is v.inside.retaking (n + 1) e in omega arith)
    (λ t. ⊎_elim (λ e. let b = bit_is v.inside.losing (n + 1) e in omega arith)
    (λ e. let b = bit_is v.inside.dropping (n + 1) e in omega arith) t) t) t) h

module _ (f : File) (k : Opening) (s : State) (rest : Rest f k) (r : Ruled f k s) where
  abbrev A : Tally
  A = tally k s.views

  pub closed_from : (g : ℕ) → g < f.stages → 0 < A (answer.closed g) → IsClosed s g
  closed_from g l h = let t = r.words.pins g l in let a = t.word in let b = t.once in omega arith

  pub closed_to : (g : ℕ) → g < f.stages → IsClosed s g → 0 < A (answer.closed g)
  closed_to g l h = let a = shut_word f k s g r l h in omega arith

  -- a number heard is at most the present one
  heard_low : (m : ℕ) → 0 < A (answer.number m) → m ≤ s.number
  heard_low m h = ⊎_elim (λ a. let e = bit_eq k.number m a in let b = r.words.number.floor in
      omega arith) (λ a. (r.words.number.once m a).2) (either (bit k.number m) (total (publishings m) s.views) h)

  -- what is known of each Met of an actor
  met_is : (j : ℕ) (v : View) → IsActor s j v → (m : Met) → IsMetOf v m → MetIs A m
  met_is j v at m is = ⊎_elim (λ e. subst (MetIs A) (sym e) (r.each j v at).own) (λ t. (r.each j v at).gone t.0 m t.1)
      is

  -- a number that an actor has seen was heard
  seen_heard : (j : ℕ) (v : View) → IsActor s j v → (m : ℕ) → 0 < m → HasSeen v m → 0 < A (answer.number m)
  seen_heard j v at m some_m saw = let mine = r.each j v at in
      ⊎_elim (λ e. subst (λ z. 0 < A (answer.number z)) (sym e) (mine.seen.heard (omega arith)))
      (λ t. met_is j v at t.0 t.1 (answer.number m) t.2) saw

  pub number : Number f s
  number = record {
    top = r.words.number.top;
    seen = λ j v at m saw. let mine = r.each j v at in ⊎_elim (λ e. let a = mine.seen.low in omega arith)
        (λ t. heard_low m (met_is j v at t.0 t.1 (answer.number m) t.2)) saw;
    holder = λ j v at h l. (r.each j v at).right.current h l;
  }

  pub pins : Pins f s
  pins = record {
    passed = λ g l h. ((r.words.pins g l).low (closed_to g l h)).0;
    bare = λ g l h j v at. let z = ((r.words.pins g l).low (closed_to g l h)).1 in
        let a = total_at (live g) s.views j v at in omega arith;
    stage = λ j v at g h. ((r.each j v at).pins g h).0;
    stays_open = λ j v at g h c. let l = ((r.each j v at).pins g h).0 in
        let z = ((r.words.pins g l).low (closed_to g l c)).1 in
        let a = total_at (live g) s.views j v at in omega arith;
    seen = λ j v at g h. inr (v.own, inl refl, ((r.each j v at).pins g h).1);
  }

  pub born : Born f s
  born = record {
    published = λ g l e. r.words.born g l (subst (λ z. 0 < A (answer.number z)) e r.words.number.heard);
    seen = λ j v at g l saw. r.words.born g l (seen_heard j v at (g + 1) (omega arith) saw);
  }

  pub seen : Seen f s
  seen = record {
    closed = λ j v at g l h. closed_from g l ((r.each j v at).seen.shut g h);
    born = λ j v at n h. (r.each j v at).seen.born n h;
    dropped = λ j v at n h. (r.each j v at).seen.dropped n h;
  }

  -- a name that an actor has Taken is below the count, and its word is 2
  pub taken_word : (j : ℕ) (v : View) → IsActor s j v → (n : ℕ) → n < f.names → HasTaken v n → s.name n ≡ 2
  taken_word j v at n l h = let a = total_at (takers n) s.views j v at in let b = some_takers n v h in
      let c = takers_parts n s.views in
      let t = (r.words.names n l).taken in bit_eq (s.name n) 2 (omega arith)

  pub inside_low : (j : ℕ) (v : View) → IsActor s j v → (n : ℕ) → HasTaken v n → n < f.names
  inside_low j v at n h = let i = (r.each j v at).inside in
      ⊎_elim (λ e. (i.getting n e).0) (λ t. ⊎_elim (λ e. (i.bearing n e).0) (λ t. ⊎_elim
      (λ e. (i.retaking n e).0) (λ t. ⊎_elim (λ e. i.losing n e) (λ e. (i.dropping n e).0) t) t) t) h

  pub builder : Builder f s
  builder = record {
    unborn = λ j v at h n t. ⊎_elim (λ e. inl e) (λ e. inr (
      taken_word j v at n (inside_low j v at n (inr (inl e)))
          (inr (inl e)),
      e,
    )) ((r.each j v at).build.unborn h n t);
    lost = λ j v at h n t. ⊎_elim (λ l. inl l) (λ q. inr (⊎_elim (λ e. inl e) (λ e. inr (
      taken_word j v at n (inside_low j v at n (inr (inr (inl e))))
          (inr (inr (inl e))),
      e,
    )) q)) ((r.each j v at).build.lost h n t);
  }

  pub dropped : Dropped f s
  dropped = record {
    done = λ n l e g b h. closed_from g b ((r.words.names n l).left e g b h);
    doing = λ j v at n e g b h. closed_from g b (shown_shut f k s.number s.number s.name s.name A A v.own n
        (r.each j v at).own ((r.each j v at).inside.dropping n e).1 g b h);
  }

  -- two actors that have it Taken are one
  one_taker : (i j : ℕ) (u v : View) → IsActor s i u → IsActor s j v → (n : ℕ) → HasTaken u n → HasTaken v n → i ≡ j
  one_taker i j u v iu at n hu h = dite (ℕ_discrete i j) (λ e. e)
      (λ ne. let l = inside_low j v at n h in let two = total_two (takers n) s.views j i v u ne at iu in
      let a = some_takers n u hu in let d = some_takers n v h in let c = takers_parts n s.views in
      let t = (r.words.names n l).taken in let b = bit_le (s.name n) 2 in absurd (omega arith))

  pub cells : Cells f s
  cells = record {
    here = λ n l e. (r.words.names n l).here e;
    taken = λ n l e. let t = (r.words.names n l).taken in let b = bit_is (s.name n) 2 e in
        let c = takers_parts n s.views in
        let o = total_some (takers n) s.views (omega arith) in (o.0, o.1, o.2, takers_some n o.1 o.3);
    one = one_taker;
    named = inside_low;
    marked = λ j v at n h. taken_word j v at n (inside_low j v at n h) h;
    held = λ j v at n h. ⊎_elim (λ e. inl ((r.each j v at).inside.getting n e).1) (λ t. inr t) h;
  }

  pub accounted : Accounted f k s
  accounted = record {
    number = ⊎_elim (λ a. dite (ℕ_discrete (total (publishings s.number) s.views) 0)
        (λ z. inl (
          sym (bit_eq k.number s.number a),
          λ m. dite (ℕ_discrete (total (publishings m) s.views) 0) (λ e. e)
              (λ ne. let t = r.words.number.once m (omega arith) in let b = t.1 in let c = t.2 in
              let e = bit_eq k.number s.number a in absurd (omega arith)),
        ))
        (λ ne. inr (omega arith)))
        (λ a. inr a) (either (bit k.number s.number) (total (publishings s.number) s.views) r.words.number.heard);
    greatest = λ m h. (r.words.number.once m h).2;
    published_once = λ m h. let t = r.words.number.once m h in (t.0, t.1);
    closed_once = λ g l h. let o = (r.words.pins g l).once in (
      omega arith,
      λ e. let b = truth_is (k.closed g) e in
          omega arith,
    );
    put_once = λ n l h. let b = (r.words.names n l).born in let c = bit_le (k.name n) 0 in
        (omega arith, bit_eq (k.name n) 0 (omega arith));
    dropped_once = λ n l h. let b = (r.words.names n l).dropped in let c = bit_le (s.name n) 3 in (
      omega arith,
      λ e. let d = bit_is (k.name n) 3 e in omega arith,
    );
    closed = λ g l. (
      (λ c. ⊎_elim (λ a. inl (truth_true (k.closed g) a)) (λ a. inr a) (either (truth (k.closed g))
          (total (closings g) s.views) (closed_to g l c))),
      λ t. closed_from g l (⊎_elim (λ e. let a = truth_is (k.closed g) e in omega arith) (λ a. omega arith) t),
    );
    unborn = λ n l. let b = (r.words.names n l).born in let c = bit_le (k.name n) 0 in (
      (λ t. ⊎_elim (λ e. let a = bit_is (s.name n) 0 e in (bit_eq (k.name n) 0 (omega arith), omega arith)) (λ a. (
        bit_eq (k.name n) 0 (omega arith),
        omega arith,
      )) t),
      λ t. let a = bit_is (k.name n) 0 t.0 in let d = t.1 in dite (ℕ_discrete (s.name n) 0) (λ e. inl e)
          (λ ne. let e = bit_not (s.name n) 0 ne in inr (omega arith)),
    );
    dropped = λ n l. let b = (r.words.names n l).dropped in (
      (λ e. let a = bit_is (s.name n) 3 e in dite (ℕ_discrete (k.name n) 3) (λ q. inl q)
          (λ ne. let z = bit_not (k.name n) 3 ne in inr (omega arith))),
      λ t. bit_eq (s.name n) 3 (⊎_elim (λ e. let a = bit_is (k.name n) 3 e in omega arith) (λ a. omega arith) t),
    );
    lost = λ n l ne t. let e = (r.words.names n l).lost ne in let tk = (r.words.names n l).taken in
        let two = bit_le (s.name n) 2 in ⊎_elim
        (λ q. let b = bits_lost (s.name n) q in let b₂ = b.1 in let b₄ = b.3 in omega arith)
        (λ q. let is = bits_low (s.name n) 2 (bit_eq (s.name n) 2 (omega arith)) in let b₄ = is.3 in omega arith) t;
    kept = λ n l ne small none. let e = (r.words.names n l).lost ne in let z = lost_not (s.name n) small in omega arith;
    line = λ n b l e. ⊎_elim (λ a. inl (bit_eq (k.name n) (4 + l) a)) (λ a. inr a) (either (bit (k.name n) (4 + l))
        (total (loses_by n l) s.views) ((r.words.names n b).line l e).0);
  }

  pub causes : (m : Met) → MetIs A m → (x : Answer) → 0 < often x m → Cause k s m x
  causes m q (answer.number n) h = ⊎_elim (λ a. inl (sym (bit_eq k.number n a))) (λ a. inr a) (either (bit k.number n)
      (total (publishings n) s.views) (q (answer.number n) h))
  causes m q (answer.missed g) h = ⊎_elim (λ a. inl (truth_true (k.closed g) a)) (λ a. inr a)
      (either (truth (k.closed g)) (total (closings g) s.views) (q (answer.missed g) h))
  causes m q (answer.already g) h = ⊎_elim (λ a. inl (truth_true (k.closed g) a)) (λ a. inr a)
      (either (truth (k.closed g)) (total (closings g) s.views) (q (answer.already g) h))
  causes m q (answer.unborn n) h = let c = q (answer.unborn n) h in
      let z = total_none (adds (answer.unborn n)) s.views (λ v. refl) in bit_eq (k.name n) 0 (omega arith)
  causes m q (answer.lost n l) h = ⊎_elim (λ a. inl (bit_eq (k.name n) (4 + l) a)) (λ a. inr a)
      (either (bit (k.name n) (4 + l)) (total (loses_by n l) s.views) (q (answer.lost n l) h))
  causes m q (answer.here n) h = let p = raises_parts n s.views in ⊎_elim (λ a. inl (bit_eq (k.name n) 1 a))
      (λ a. inr (⊎_elim (λ a. ⊎_elim (λ a. ⊎_elim (λ a. inl a) (λ a. inr (inl a)) (either (total (puts n) s.views)
      (total (restores n) s.views) a))
      (λ a. inr (inr (inl a))) (either (total (puts n) s.views + total (restores n) s.views)
      (total (in_birth n) s.views) a))
      (λ a. inr (inr (inr a)))
      (either (total (puts n) s.views + total (restores n) s.views + total (in_birth n) s.views)
      (total (in_retake n) s.views) (omega arith))))
      (either (bit (k.name n) 1) (total (raises n) s.views) (q (answer.here n) h))
  causes m q (answer.not_lost n) h = let p = sinks_parts n s.views in let c = q (answer.not_lost n) h in ⊎_elim
      (λ a. ⊎_elim (λ a. ⊎_elim (λ a. inl (bit_eq (k.name n) 0 a)) (λ a. inr (inr (inl (bit_eq (k.name n) 3 a))))
      (either (bit (k.name n) 0)
      (bit (k.name n) 3) a)) (λ a. inr (inl (lost_bit_is (k.name n) a))) (either (bit (k.name n) 0 + bit (k.name n) 3)
      (lost_bit (k.name n)) a))
      (λ a. inr (inr (inr (⊎_elim (λ a. inl a) (λ a. inr a) (either (total (loses n) s.views) (total (drops n) s.views)
      (omega arith))))))
      (either (bit (k.name n) 0 + bit (k.name n) 3 + lost_bit (k.name n)) (total (sinks n) s.views) c)
  causes m q (answer.not_dropped n) h = let p = hides_parts n s.views in let c = q (answer.not_dropped n) h in ⊎_elim
      (λ a. ⊎_elim (λ a. inl (bit_eq (k.name n) 0 a)) (λ a. inr (inl (bit_eq (k.name n) 3 a)))
      (either (bit (k.name n) 0) (bit (k.name n) 3) a))
      (λ a. inr (inr (⊎_elim (λ a. ⊎_elim (λ a. ⊎_elim (λ a. inl a) (λ a. inr (inl a)) (either (total (loses n) s.views)
      (total (drops n) s.views) a)) (λ a. inr (inr (inl a))) (either (total (loses n) s.views + total (drops n) s.views)
      (total (in_lose n) s.views) a)) (λ a. inr (inr (inr a)))
      (either (total (loses n) s.views + total (drops n) s.views + total (in_lose n) s.views)
      (total (in_drop n) s.views) (omega arith)))))
      (either (bit (k.name n) 0 + bit (k.name n) 3) (total (hides n) s.views) c)
  causes m q answer.refused h = let c = q answer.refused h in omega arith
  causes m q (answer.pinned g p o) h = λ l. let c = q (answer.pinned g p o) h l in omega arith
  causes m q x h = tt

  pub kept : Kept f k s
  kept = record {
    number = number;
    pins = pins;
    born = born;
    seen = seen;
    builder = builder;
    dropped = dropped;
    losses = λ n l b e. ((r.words.names n b).line l e).1;
    cells = cells;
    accounted = accounted;
    caused = record {
      answers = λ a j v at m is. causes m (met_is j v at m is) a;
      right = λ j v at h. (r.each j v at).right.has h;
      pin = λ j v at g h. ((r.each j v at).pins g h).2;
    };
  }
