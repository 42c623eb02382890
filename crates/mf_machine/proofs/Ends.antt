-- What follows from the law: pinned names stay, the last actor brings all back, and causes lead back.
use Rattle.std.proofs.Common.{◌≡◌, ◌≢◌, ℕ, zero, suc, ◌+◌, ◌<◌, [], ◌∷◌, sym, refl, ap, subst, true, ◌⊎◌, ⊎_elim, inl}
use Rattle.std.proofs.Common.{inr, arith}
use Rattle.std.proofs.lemmas.Bool.{leb-true, le-leb}
use mathlib.Core.Logic.{dite}
use mathlib.Core.Option.{some, some-injective, some-ne-none}
use native.Mathlib.Decide.{ℕ_discrete, dec_le}
use lib.ListN.{get_elem?}
use Rattle.mf_machine.specs.declared.view.Met.{Met}
use Rattle.mf_machine.specs.declared.view.View.{View}
use Rattle.mf_machine.specs.Actors.{live}
use Rattle.mf_machine.specs.Answers as answer
use Rattle.mf_machine.specs.Answers.{Answer, often}
use Rattle.mf_machine.specs.Counts.{times, total, all_begun, all_opened}
use Rattle.mf_machine.specs.File.{File, Opening, State, Holds}
use Rattle.mf_machine.specs.Kept.{IsActor, IsMetOf, Stands, Cause, Kept}
use Rattle.mf_machine.specs.Laws.{RuleHolds, Law, RestIsKept, Stays, PinnedStays, IsLast, resting, alone, BringsBack}
use Rattle.mf_machine.specs.Laws.{LastBringsBack, Another, Someone, LeadsBack, CausesLeadBack}
use Rattle.mf_machine.specs.Rest.{Rest}
use Rattle.mf_machine.specs.Ruled.{SitsIn, Ruled}
use Rattle.mf_machine.specs.Sums.{adds, right_of, share_of, pins, publishings, closings, puts, loses, loses_by}
use Rattle.mf_machine.specs.Sums.{restores}
use Rattle.mf_machine.specs.Sums.{drops, in_get, in_birth, in_retake, in_lose, in_drop, begun_of, opened_of}
use Rattle.mf_machine.specs.Worlds.{read, spent_view}
use Rattle.mf_machine.specs.File.Home.{empty}
use Rattle.mf_machine.proofs.Lists.{bit_is, bit_not}
use Rattle.mf_machine.proofs.Totals.{total_at, total_two, total_some, total_other}
use Rattle.mf_machine.proofs.Laws.{reached}
use Rattle.mf_machine.proofs.Rules as rules
use Rattle.mf_machine.proofs.Rules.{either}
use Rattle.mf_machine.proofs.Seats.{Equal, words_equal, sits_equal, zero_has}

-- the law
pub law : Law
law f k w r = let g = (reached f k w r).1 in (rules.kept f k (read f w) r.2 g, g)

-- pinned names stay
pub stays : (f : File) (k : Opening) (s : State) → Kept f k s → (j : ℕ) (v : View) → IsActor s j v → (g : ℕ)
    → 0 < live g v → (n : ℕ) → n < f.names → Holds f g n → Stays f s n
stays f k s r j v at g alive n l h = let b = r.pins.stage j v at g alive in
    let alive_name : s.name n ≢ 0 = λ e. r.born.seen j v at g b (r.pins.seen j v at g alive) n l h e in
    let not_dropped : s.name n ≢ 3 = λ e. r.pins.stays_open j v at g alive (r.dropped.done n l e g b h) in (
      dite (ℕ_discrete (s.name n) 1) (λ e. inl e) (λ a. inr (dite (ℕ_discrete (s.name n) 2) (λ e. inl e)
          (λ b. inr (dite (dec_le 4 (s.name n))
          (λ q. q) (λ q. absurd (dite (ℕ_discrete (s.name n) 0) alive_name (λ z. not_dropped (omega arith)))))))),
      alive_name,
      not_dropped,
      r.cells.here n l,
    )

pub pinned_stays : PinnedStays
pinned_stays f k w r = stays f k (read f w) (law f k w r).0

pub rule_holds : RuleHolds
rule_holds f k s rest r = let kept = rules.kept f k s rest r in (kept, stays f k s kept)

-- a state that keeps the rules rests, where no name is Taken
pub kept_rests : (f : File) (k : Opening) (s : State) → Kept f k s → ((n : ℕ) → n < f.names → s.name n ≢ 2)
    → ((n : ℕ) → n < f.names → s.name n ≢ 1 → s.home n ≡ empty) → Rest f (resting s)
kept_rests f k s r none bare = record {
  number = r.number.top;
  closed = λ g l e. r.pins.passed g l (leb-true 9223372036854775808 (s.pins g) e);
  born = λ g l e. r.born.published g l e;
  settled = none;
  dropped = λ n l e g b h. le-leb 9223372036854775808 (s.pins g) (r.dropped.done n l e g b h);
  lost = λ n i l e. r.losses n i l e;
  here = r.cells.here;
  bare = bare;
}

pub rest_is_kept : RestIsKept
rest_is_kept = record { begins = λ f k w rest o. (law f k w (w, [], rest, o, tt, refl)).0; ends = kept_rests }

spent_adds : (x : Answer) → adds x spent_view ≡ 0
spent_adds (answer.here n) = let z = zero_has n in omega arith
spent_adds (answer.not_dropped n) = let z = zero_has n in omega arith
spent_adds x = refl

module _ (f : File) (k : Opening) (s : State) (r : Ruled f k s) (j : ℕ) (v : View) (last : IsLast s j v) where
  -- where one actor has the whole share, its part is the whole
  whole : (h : View → ℕ) → h spent_view ≡ 0 → total h (v ∷ []) ≡ total h s.views
  whole h none = let low = total_at h s.views j v last.0 in let share = last.1 in
      dite (ℕ_discrete (total h s.views) (h v)) (λ e. omega arith)
      (λ ne. let o = total_other h s.views j v last.0 (omega arith) in
      let two = total_two share_of s.views j o.0 v o.1 o.2 last.0 o.3 in
      let all = r.words.shares in let more = o.4 in
      let e = ap h ((r.each o.0 o.1 o.3).spent (omega arith)) in absurd (omega arith))

  only : Equal s.views (v ∷ [])
  only = record {
    right = whole right_of (refl);
    share = whole share_of (refl);
    alive = λ g. whole (live g) (let z = zero_has g in omega arith);
    pins = λ g. whole (pins g) (let z = zero_has g in omega arith);
    in_get = λ g. whole (in_get g) (zero_has g);
    in_birth = λ g. whole (in_birth g) (zero_has g);
    in_retake = λ g. whole (in_retake g) (zero_has g);
    in_lose = λ g. whole (in_lose g) (zero_has g);
    in_drop = λ g. whole (in_drop g) (zero_has g);
    puts = λ g. whole (puts g) (refl);
    loses = λ g. whole (loses g) (refl);
    restores = λ g. whole (restores g) (refl);
    drops = λ g. whole (drops g) (refl);
    adds = λ x. whole (adds x) (spent_adds x);
  }

  pub alone_ruled : Ruled f k (alone s v)
  alone_ruled = record {
    words = words_equal f k s (v ∷ []) only r.words;
    each = λ i u e. first i u e (sits_equal f k s (v ∷ []) only v (r.each j v last.0));
  }
    where
      first : (i : ℕ) (u : View) → get_elem? (v ∷ []) i ≡ some u → SitsIn f k (alone s v) v → SitsIn f k (alone s v) u
      first zero u e h = subst (SitsIn f k (alone s v)) (some-injective v u e) h
      first (suc i) u e h = absurd (some-ne-none u (sym e))

  -- nobody has a name Taken
  pub none_taken : (n : ℕ) → n < f.names → s.name n ≢ 2
  none_taken n l e = let t = (alone_ruled.words.names n l).taken in let b = bit_is (s.name n) 2 e in
      let free = last.5 in
      let z₁ = bit_not v.inside.getting (n + 1) (λ q. omega arith) in
      let z₂ = bit_not v.inside.bearing (n + 1) (λ q. omega arith) in
      let z₃ = bit_not v.inside.retaking (n + 1) (λ q. omega arith) in
      let z₄ = bit_not v.inside.losing (n + 1) (λ q. omega arith) in
      let z₅ = bit_not v.inside.dropping (n + 1) (λ q. omega arith) in omega arith

  pub rests : Rest f k → Rest f (resting s)
  rests rest = kept_rests f k s (rules.kept f k s rest r) none_taken (λ n l ne. (r.words.names n l).bare ne
      (none_taken n l))

  pub brings : Rest f k → BringsBack f k s v
  brings rest = let a = rules.accounted f k (alone s v) rest alone_ruled in let free = last.5 in
      let none : (n : ℕ) → in_birth n v ≡ 0 = λ n. bit_not v.inside.bearing (n + 1) (λ q. omega arith) in
      let calm : (n : ℕ) → in_retake n v ≡ 0 = λ n. bit_not v.inside.retaking (n + 1) (λ q. omega arith) in record {
        number = ⊎_elim (λ t. let e = t.0 in let no = t.1 in inl (e, λ m. let z = no m in omega arith))
            (λ h. inr (omega arith)) a.number;
        greatest = λ m h. let t = a.published_once m (omega arith) in (t.1, a.greatest m (omega arith));
        closed = λ g l. let t = a.closed g l in (
          (λ c. ⊎_elim (λ e. inl e) (λ h. inr (omega arith)) (t.0 c)),
          λ q. t.1 (⊎_elim (λ e. inl e)
              (λ h. inr (omega arith)) q),
        );
        unborn = λ n l. let t = a.unborn n l in (
          (λ e. let q = t.0 (inl e) in let z = q.1 in (q.0, omega arith)),
          λ q. let z = q.1 in
              let u = t.1 (q.0, omega arith) in let y = none n in ⊎_elim (λ e. e) (λ h. absurd (omega arith)) u,
        );
        dropped = λ n l. let t = a.dropped n l in (
          (λ e. ⊎_elim (λ q. inl q) (λ h. inr (omega arith)) (t.0 e)),
          λ q. t.1 (⊎_elim (λ e. inl e)
              (λ h. inr (omega arith)) q),
        );
        lost = λ n l ne. let c = calm n in (
          (λ q. let e = a.lost n l ne (inl q) in omega arith),
          λ e. dite (dec_le 4 (s.name n)) (λ q. q)
              (λ q. let z = a.kept n l ne (omega arith) (omega arith) in absurd (omega arith)),
        );
        line = λ n i l e. ⊎_elim (λ q. inl q) (λ h. inr (omega arith)) (a.line n l i e);
        here = λ n l. let ne = none_taken n l in dite (ℕ_discrete (s.name n) 0) (λ e. inl e)
            (λ p. inr (dite (ℕ_discrete (s.name n) 1) (λ e. inl e)
            (λ q. inr (dite (ℕ_discrete (s.name n) 3) (λ e. inl e) (λ y. inr (omega arith))))));
      }

pub last_brings_back : LastBringsBack
last_brings_back f k w r j v last = let g = (reached f k w r).1 in let s : State = read f w in
    let kept = rules.kept f k (alone s v) r.2 (alone_ruled f k s g j v last) in
    (brings f k s g j v last r.2, kept.caused, kept, rests f k s g j v last r.2)

-- where more was done than by one actor, another has done some
another : (s : State) (j : ℕ) (v : View) (deed : View → ℕ) (own gone : ℕ) → IsActor s j v → deed v ≡ own + gone
    → own < total deed s.views → Another s j deed gone
another s j v deed own gone at e h = dite (ℕ_discrete gone 0) (λ z. let o = total_other deed s.views j v at
    (omega arith) in inr (
      o.0,
      o.1,
      o.2,
      o.3,
      o.4,
    )) (λ ne. inl (omega arith))

someone : (s : State) (deed : View → ℕ) → 0 < total deed s.views → Someone s deed
someone s deed h = total_some deed s.views h

pub leads_back : (f : File) (k : Opening) (s : State) → Kept f k s → (j : ℕ) (v : View) → IsActor s j v
    → LeadsBack f k s j v
leads_back f k s r j v at = record {
  refused = λ h. another s j v begun_of v.own.begun (all_begun v.gone) at refl
      (of v.own (inl refl) answer.refused h);
  pinned = λ g p o h more. another s j v (opened_of g) (times g v.own.opened) (all_opened g v.gone) at refl
      (of v.own (inl refl) (answer.pinned g p o) h more);
  already = λ g m is h. ⊎_elim (λ a. shut g (of m is (answer.already g) a))
      (λ a. shut g (of m is (answer.missed g) a)) (either (times g m.already) (times g m.missed) h);
  lost = λ n l m is h. ⊎_elim (λ e. inl e) (λ q. inr (someone s (loses_by n l) q)) (of m is (answer.lost n l) h);
  absent = λ m is h. ⊎_elim (λ e. sym e) (λ q. let t = (r.accounted.published_once 0 q).1 in
      absurd (omega arith)) (of m is (answer.number 0) h);
  removed = λ m is h. ⊎_elim (λ e. inl (sym e)) (λ q. inr (someone s (publishings (f.stages + 1)) q))
      (of m is (answer.number (f.stages + 1)) h);
}
  where
    of : (m : Met) → IsMetOf v m → (a : Answer) → 0 < often a m → Cause k s m a
    of m is a = r.caused.answers a j v at m is

    shut : (g : ℕ) → (k.closed g ≡ true) ⊎ Stands (closings g) s → (k.closed g ≡ true) ⊎ Someone s (closings g)
    shut g t = ⊎_elim (λ e. inl e) (λ q. inr (someone s (closings g) q)) t

pub causes_lead_back : CausesLeadBack
causes_lead_back f k w r = leads_back f k (read f w) (law f k w r).0
