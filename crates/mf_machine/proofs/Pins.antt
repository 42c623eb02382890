-- pin, unpin and close
use Rattle.std.proofs.Common.{◌≡◌, ℕ, ◌+◌, ◌*◌, ◌<◌, ◌≤◌, List, [], ◌∷◌, set, sym, refl, ap, ◌∙◌, subst, arith}
use mathlib.Core.Logic.{dite}
use mathlib.Core.Option.{some}
use native.Mathlib.Decide.{ℕ_discrete}
use lib.ListN.{get_elem?}
use Rattle.mf_machine.specs.declared.view.View.{View}
use Rattle.mf_machine.specs.Actors.{Active, Idle, Free, on, live}
use Rattle.mf_machine.specs.Answers as answer
use Rattle.mf_machine.specs.Counts.{bit, times, total}
use Rattle.mf_machine.specs.File.{File, Opening, State}
use Rattle.mf_machine.specs.Ruled.{PinsAre, SitsIn, Ruled}
use Rattle.mf_machine.specs.Steps.{missed, closed_done, closed_pins, closed_already}
use Rattle.mf_machine.specs.Sums.{right_of, share_of, stray, pins, closings, opened_of, tally}
use Rattle.mf_machine.specs.Worlds.{counted, spent_view}
use Rattle.mf_machine.proofs.Lists.{bit_is, bit_not, bit_le, times_here, times_else, times_more}
use Rattle.mf_machine.proofs.Totals.{total_set, total_same, total_two, total_at, total_le, total_other}
use Rattle.mf_machine.proofs.Entering.{silence, reply}
use Rattle.mf_machine.proofs.Frames.{idle_inside}
use Rattle.mf_machine.proofs.Steps.{ButPins, After, pins_same, part_same, calm, gated}

triple : View → ℕ
triple v = 3 * v.share

triple_total : (vs : List View) → total triple vs ≡ 3 * total share_of vs
unfolding triple
triple_total [] = refl
triple_total (v ∷ vs) = let r = triple_total vs in omega arith

-- an actor that was taken in has no pin
pub spent_pins : (g : ℕ) (v : View) → v ≡ spent_view → pins g v ≡ 0
spent_pins g v e = ap (pins g) e ∙ (let a = bit_not 0 (g + 1) (λ z. omega arith) in
    let z : pins g spent_view ≡ 0 = omega arith in z)

pub live_le : (g : ℕ) (v : View) → live g v ≤ 2
live_le g v = let a = bit_le v.hold (g + 1) in let b = bit_le v.work (g + 1) in omega arith

-- the pins of a generation are far from 2^63
pub few_pins : (f : File) (k : Opening) (s : State) (g : ℕ) → Ruled f k s → total (pins g) s.views ≤ 3221225472
unfolding triple
few_pins f k s g r = let a = total_le (pins g) triple s.views (λ j v e. small v (r.each j v e)) in
    let b = triple_total s.views in
    let c = r.words.shares in omega arith
  where
    small : (v : View) → SitsIn f k s v → pins g v ≤ triple v
    small v t = dite (ℕ_discrete v.share 0) (λ e. let z = spent_pins g v (t.spent e) in omega arith)
        (λ ne. let l = live_le g v in dite (ℕ_discrete (stray g v) 0) (λ z. omega arith)
        (λ nz. let b = (t.strays g (omega arith)).1 in omega arith))

-- what a word of pins says: below 2^63 the generation is open, and the word is the number of its pins
pub open_word : (f : File) (k : Opening) (s : State) (g : ℕ) → Ruled f k s → g < f.stages
    → s.pins g < 9223372036854775808 → (tally k s.views (answer.closed g) ≡ 0) × (s.pins g ≡ total (pins g) s.views)
open_word f k s g r l h = let is = (r.words.pins g l).word in let one = (r.words.pins g l).once in
    (omega arith, omega arith)

pub shut_word : (f : File) (k : Opening) (s : State) (g : ℕ) → Ruled f k s → g < f.stages
    → 9223372036854775808 ≤ s.pins g → tally k s.views (answer.closed g) ≡ 1
shut_word f k s g r l h = let is = (r.words.pins g l).word in let one = (r.words.pins g l).once in
    let few = few_pins f k s g r in omega arith

module _ (f : File) (k : Opening) (s : State) (id i : ℕ) (v : View) (r : Ruled f k s)
    (at : get_elem? s.views id ≡ some v) (active : Active v) (s' : State) where
  -- the pin falls on an open generation: the two slots are then `hold` and `work`
  pub pins_open : (g y hold work : ℕ) → Idle v → g < f.stages → v.last ≡ g + 2
      → ((h : ℕ) → on h hold work ≡ live h v + bit (g + 1) (h + 1)) → s.pins g < 9223372036854775808
      → ButPins s g s' → s'.pins g ≡ s.pins g + 1
      → Ruled f k (After f k s id v (counted i y (record v {
        hold = hold;
        work = work;
        own = record v.own { opened = g ∷ v.own.opened };
      })) s')
  pins_open g y hold work idle below saw slots free but here = let there = but.pins in let ep = but.number in
      let w : View = counted i y (record v {
        hold = hold;
        work = work;
        own = record v.own { opened = g ∷ v.own.opened };
      }) in let vs' : List View = set s.views id w in let mine = r.each id v at in let ws = r.words in
      let word = open_word f k s g r below free in let shut = word.0 in
      let c = total_same (closings g) s.views id v w at refl in
      gated f k s id v w s' (reply (answer.opened g)) refl r at ep but.names but.homes refl refl refl refl
      (λ up. (
        but.right ∙ (ws.right ∙ sym (total_same right_of s.views id v w at refl)),
        let o = ws.one in let er = but.right in omega arith,
        (λ h l. dite (ℕ_discrete h g)
            (λ e. subst (λ z. PinsAre s'.number z (s'.pins z) (tally k vs' (answer.closed z)) (total (live z) vs')
            (total (pins z) vs')) (sym e)
            record {
              word = let d = total_set (pins g) s.views id v w at in let q = slots g in
                  let b = bit_is (g + 1) (g + 1) refl in let a = word.1 in omega arith;
              once = omega arith;
              low = λ z. absurd (omega arith);
            })
            (λ ne. pins_same f k s.views id v w at s.number s'.number h (s.pins h) (s'.pins h) (ws.pins h l)
            (omega arith) (there h ne) (let q = slots h in
            let b = bit_not (g + 1) (h + 1) (λ e. ne (omega arith)) in omega arith) refl refl)),
        (tt, tt),
      ))
      (λ old. record {
        active = active;
        strays = old.strays;
        last = old.last;
        right = old.right;
        build = old.build;
        pins = λ h l. dite (ℕ_discrete h g)
            (λ e. (
              omega arith,
              subst (λ z. 0 < times (z + 1) v.own.numbers) (sym e) (mine.last (g + 1) (omega arith)).1,
              subst (λ z. 0 < times z (g ∷ v.own.opened)) (sym e) (let a = times_here g v.own.opened in omega arith),
            ))
            (λ ne. let q = slots h in let b = bit_not (g + 1) (h + 1) (λ e. ne (omega arith)) in
            let t = mine.pins h (omega arith) in
            (t.0, t.1, let a = t.2 in omega arith));
        inside = idle_inside f s'.name w.inside w.hold w.work w.last w.build w.own idle
            (λ n e. let t = mine.inside.getting n e in let h = t.1 in let q = slots h.0 in
            let u = h.2 in (t.0, (h.0, h.1, omega arith, h.3)));
      })

  -- the pin falls on a closed one
  pub pins_shut : (g y : ℕ) → Idle v → g < f.stages → times g v.seen.shut ≡ 0 → 9223372036854775808 ≤ s.pins g
      → ButPins s g s' → s'.pins g ≡ s.pins g + 1
      → Ruled f k (After f k s id v (counted i y (missed g v)) s')
  pins_shut g y idle below open_yet shut_now but here = let there = but.pins in let ep = but.number in
      let w : View = counted i y (missed g v) in
      let vs' : List View = set s.views id w in let mine = r.each id v at in let ws = r.words in
      let c = total_same (closings g) s.views id v w at refl in
      let shut = shut_word f k s g r below shut_now in let never : stray g v ≡ 0 = dite (ℕ_discrete (stray g v) 0)
      (λ e. e)
      (λ ne. let a = (mine.strays g (omega arith)).0 in absurd (omega arith)) in
      gated f k s id v w s' (reply (answer.missed g)) refl r at ep but.names but.homes refl refl refl refl
      (λ up. (
        but.right ∙ (ws.right ∙ sym (total_same right_of s.views id v w at refl)),
        let o = ws.one in let er = but.right in omega arith,
        (λ h l. dite (ℕ_discrete h g)
            (λ e. subst (λ z. PinsAre s'.number z (s'.pins z) (tally k vs' (answer.closed z)) (total (live z) vs')
            (total (pins z) vs')) (sym e)
            record {
              word = let d = total_set (pins g) s.views id v w at in let b = times_here g v.strays in
                  let a = (ws.pins g below).word in omega arith;
              once = let a = (ws.pins g below).once in omega arith;
              low = λ _. let a = (ws.pins g below).low (omega arith) in
                  let b = a.0 in (omega arith, total_same (live g) s.views id v w at refl ∙ a.1);
            })
            (λ ne. pins_same f k s.views id v w at s.number s'.number h (s.pins h) (s'.pins h) (ws.pins h l)
            (omega arith)
            (there h ne) refl (times_else h g v.strays ne) refl)),
        (let q = up (answer.closed g) in (omega arith, omega arith)),
      ))
      (λ old. record {
        active = active;
        strays = λ h l. dite (ℕ_discrete h g) (λ e. subst
            (λ z. (0 < times z (g ∷ v.seen.shut)) × (times z (g ∷ v.strays) ≤ v.share)) (sym e)
            (let a = times_here g v.seen.shut in
            let b = times_here g v.strays in (omega arith, omega arith)))
            (λ ne. let a = times_else h g v.strays ne in let t = mine.strays h (omega arith) in
            let b = times_else h g v.seen.shut ne in
            let c = t.0 in let d = t.1 in (omega arith, omega arith));
        last = old.last;
        right = old.right;
        build = old.build;
        pins = old.pins;
        inside = idle_inside f s'.name w.inside w.hold w.work w.last w.build w.own idle mine.inside.getting;
      })

  -- unpin: the two slots are then `hold` and `work`
  pub unpins : (g y hold work : ℕ) → Free v → g < f.stages → ((h : ℕ) → live h v ≡ on h hold work + bit (g + 1) (h + 1))
      → ButPins s g s' → s.pins g ≡ s'.pins g + 1
      → Ruled f k (After f k s id v (counted i y (record v { hold = hold; work = work })) s')
  unpins g y hold work free below slots but here = let there = but.pins in let ep = but.number in
      let w : View = counted i y (record v { hold = hold; work = work }) in let vs' : List View = set s.views id w in
      let mine = r.each id v at in let ws = r.words in let c = total_same (closings g) s.views id v w at refl in
      let idle : Idle v = omega arith in let b = bit_is (g + 1) (g + 1) refl in let one = slots g in
      let alive = total_at (live g) s.views id v at in
      let open_now : tally k s.views (answer.closed g) ≡ 0 = dite (ℕ_discrete (tally k s.views (answer.closed g)) 0)
      (λ e. e)
      (λ ne. let a = ((ws.pins g below).low (omega arith)).1 in absurd (omega arith)) in
      gated f k s id v w s' silence refl r at ep but.names but.homes refl refl refl refl
      (λ up. (
        but.right ∙ (ws.right ∙ sym (total_same right_of s.views id v w at refl)),
        let o = ws.one in let er = but.right in omega arith,
        (λ h l. dite (ℕ_discrete h g)
            (λ e. subst (λ z. PinsAre s'.number z (s'.pins z) (tally k vs' (answer.closed z)) (total (live z) vs')
            (total (pins z) vs')) (sym e)
            record {
              word = let d = total_set (pins g) s.views id v w at in let a = (ws.pins g below).word in omega arith;
              once = omega arith;
              low = λ z. absurd (omega arith);
            })
            (λ ne. pins_same f k s.views id v w at s.number s'.number h (s.pins h) (s'.pins h) (ws.pins h l)
            (omega arith) (there h ne) (let q = slots h in
            let z = bit_not (g + 1) (h + 1) (λ e. ne (omega arith)) in omega arith) refl refl)),
        tt,
      ))
      (λ old. record {
        active = active;
        strays = old.strays;
        last = old.last;
        right = old.right;
        build = old.build;
        pins = λ h l. let q = slots h in mine.pins h (omega arith);
        inside = idle_inside f s'.name w.inside w.hold w.work w.last w.build w.own idle (λ n e. absurd (omega arith));
      })

  -- a close that met no pin
  pub closes_done : (g y : ℕ) → Idle v → g < f.stages → g + 1 < v.seen.number → s.pins g ≡ 0
      → ButPins s g s' → s'.pins g ≡ 9223372036854775808
      → Ruled f k (After f k s id v (counted i y (closed_done g v)) s')
  closes_done g y idle below saw none but here = let there = but.pins in let ep = but.number in
      let w : View = counted i y (closed_done g v) in
      let vs' : List View = set s.views id w in let mine = r.each id v at in let ws = r.words in
      let word = open_word f k s g r below (omega arith) in let open_now = word.0 in let zero_pins = word.1 in
      let seen_low = mine.seen.low in
      let c = total_set (closings g) s.views id v w at in let z = times_here g v.made.closings in
      let all = total_same (pins g) s.views id v w at refl in let alive = total_same (live g) s.views id v w at refl in
      let under = total_le (live g) (pins g) s.views (λ j u e. omega arith) in
      let now : tally k vs' (answer.closed g) ≡ 1 = omega arith in
      gated f k s id v w s' (reply (answer.closed g)) refl r at ep but.names but.homes refl refl refl refl
      (λ up. (
        but.right ∙ (ws.right ∙ sym (total_same right_of s.views id v w at refl)),
        let o = ws.one in let er = but.right in omega arith,
        (λ h l. dite (ℕ_discrete h g)
            (λ e. subst (λ z. PinsAre s'.number z (s'.pins z) (tally k vs' (answer.closed z)) (total (live z) vs')
            (total (pins z) vs')) (sym e)
            record { word = omega arith; once = omega arith; low = λ _. (omega arith, omega arith) })
            (λ ne. pins_same f k s.views id v w at s.number s'.number h (s.pins h) (s'.pins h) (ws.pins h l)
            (omega arith)
            (there h ne) refl refl (times_else h g v.made.closings ne))),
        (omega arith, omega arith),
      ))
      (λ old. record {
        active = active;
        strays = λ h l. let t = mine.strays h l in (
          let a = t.0 in let b = times_more h g v.seen.shut in
              omega arith,
          t.1,
        );
        last = old.last;
        right = old.right;
        build = old.build;
        pins = old.pins;
        inside = idle_inside f s'.name w.inside w.hold w.work w.last w.build w.own idle mine.inside.getting;
      })

module _ (f : File) (k : Opening) (s : State) (id i : ℕ) (v : View) (r : Ruled f k s)
    (at : get_elem? s.views id ≡ some v) (active : Active v) (idle : Idle v) (g : ℕ) (below : g < f.stages) where
  -- a close that met the closed word
  pub closes_already : 9223372036854775808 ≤ s.pins g → Ruled f k
      (record s { views = set s.views id (counted i (s.pins g) (closed_already g v)) })
  closes_already shut_now = let w : View = counted i (s.pins g) (closed_already g v) in let mine = r.each id v at in
      let shut = shut_word f k s g r below shut_now in
      calm f k s id v w (reply (answer.already g)) refl r at refl (λ n. part_same n v w refl refl)
      (λ add up. let c = up (answer.closed g) in (omega arith, omega arith))
      (λ up. record {
        active = active;
        strays = λ h l. let t = mine.strays h l in (
          let a = t.0 in let b = times_more h g v.seen.shut in
              omega arith,
          t.1,
        );
        last = mine.last;
        right = mine.right;
        build = mine.build;
        pins = mine.pins;
        inside = idle_inside f s.name w.inside w.hold w.work w.last w.build w.own idle mine.inside.getting;
      })

  -- a close that met pins: where there are more than the actor's own, another actor has one
  pub closes_pins : s.pins g < 9223372036854775808 → Ruled f k
      (record s { views = set s.views id (counted i (s.pins g) (closed_pins g (s.pins g) v)) })
  closes_pins open_now = let w : View = counted i (s.pins g) (closed_pins g (s.pins g) v) in
      let mine = r.each id v at in
      let word = open_word f k s g r below open_now in let none = word.0 in
      let unshut : (j : ℕ) (u : View) → get_elem? s.views j ≡ some u → stray g u ≡ 0 = λ j u e. dite
      (ℕ_discrete (stray g u) 0) (λ z. z)
      (λ ne. let a = ((r.each j u e).strays g (omega arith)).0 in let b = (r.each j u e).seen.shut g a in
      absurd (omega arith)) in
      let all = total_le (pins g) (live g) s.views (λ j u e. let z = unshut j u e in omega arith) in
      let cause : live g v < s.pins g → times g v.own.opened < tally k s.views (answer.opened g) = λ l. let is = word.1
      in
      let o = total_other (live g) s.views id v at (omega arith) in let t = ((r.each o.0 o.1 o.3).pins g o.4).2 in
      let two = total_two (opened_of g) s.views id o.0 v o.1 o.2 at o.3 in omega arith in
      calm f k s id v w (reply (answer.pinned g (s.pins g) (live g v))) refl r at refl (λ n. part_same n v w refl refl)
      (λ add up. ((λ l. let c = cause l in let b = up (answer.opened g) in omega arith), tt))
      (λ up. record {
        active = active;
        strays = mine.strays;
        last = mine.last;
        right = mine.right;
        build = mine.build;
        pins = mine.pins;
        inside = idle_inside f s.name w.inside w.hold w.work w.last w.build w.own idle mine.inside.getting;
      })
