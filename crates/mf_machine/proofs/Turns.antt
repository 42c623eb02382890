-- take and give, birth, lose, retake
use Rattle.std.proofs.Common.{◌≡◌, ◌≢◌, ℕ, ◌+◌, ◌<◌, set, refl, ap, subst, inl, arith, ◌≤◌, sym, ◌∙◌, ⊎_elim, inr, ◌⊎◌}
use mathlib.Core.Option.{some}
use lib.ListN.{get_elem?}
use Rattle.mf_machine.specs.declared.view.View.{View}
use Rattle.mf_machine.specs.Actors.{Active, Free, PinHolds, NextHolds, live, IsNext, WorkHolds}
use Rattle.mf_machine.specs.Counts.{bit, times}
use Rattle.mf_machine.specs.File.{File, Opening, State, HasCell, IsLoseLine, Holds}
use Rattle.mf_machine.specs.File.Home.{away, empty}
use Rattle.mf_machine.specs.Rest.{Rest}
use Rattle.mf_machine.specs.Ruled.{Ruled}
use Rattle.mf_machine.specs.Sums.{in_get, in_birth, raises, tally, in_lose, loses_by, hides, in_retake}
use Rattle.mf_machine.specs.Worlds.{counted, noted, steps}
use Rattle.mf_machine.proofs.Entering.{silence, reply}
use Rattle.mf_machine.proofs.Lists.{bit_is, bit_not, bit_eq, times_here, times_else, without_from, losses_here}
use Rattle.mf_machine.proofs.Lists.{losses_else, lines_here}
use Rattle.mf_machine.proofs.Totals.{total_at, total_set}
use Rattle.mf_machine.proofs.Sees.{here_cause}
use Rattle.mf_machine.proofs.Steps.{ButName, After, parts, adds_by}
use Rattle.mf_machine.proofs.Words.{bits_low, bits_lost, outside_of, turn_else, back_else, renamed, more_born}
use Rattle.mf_machine.proofs.Words.{onward_at, ends_at, named, lines_other}
use mathlib.Core.Logic.{dite}
use native.Mathlib.Decide.{ℕ_discrete}
use Rattle.mf_machine.proofs.Frames.{Onward, Ends, right_on}
use Rattle.mf_machine.proofs.Numbers.{one_right}
use Rattle.mf_machine.specs.Answers as answer
use Rattle.mf_machine.specs.Steps as row
use Rattle.mf_machine.proofs.Words as word

module _ (f : File) (k : Opening) (s : State) (id : ℕ) (v : View) (rest : Rest f k) (r : Ruled f k s)
    (at : get_elem? s.views id ≡ some v) (active : Active v) (s' : State) where
  -- a take of a name that is Here: its slot is out, with its cell
  pub takes : (n i y : ℕ) → Free v → n < f.names → PinHolds f v.hold v.work n → s.name n ≡ 1 → ButName f s n s'
      → s'.name n ≡ 2 → s'.home n ≡ away → Ruled f k (After f k s id v (counted i y (row.took n v)) s')
  takes n i y free inside pin here but now out = let w : View = counted i y (row.took n v) in let ws = r.words in
      let o = outside_of n v free in
      let z : v.inside.getting ≡ 0 = omega arith in let one = bit_is (n + 1) (n + 1) refl in let o₀ = o.0 in
      let alive : s'.name n ≢ 0 = λ z. omega arith in let cause = here_cause f k s n rest ws inside (inl here) in
      renamed f k s id v w s' n (reply (answer.here n)) refl r at refl but (omega arith, omega arith) alive
      (λ m ne. record {
        counts = ap (λ z. record (parts m v) { in_get = z }) (turn_else m n v.inside.getting ne z);
        lost_by = λ l. refl;
      })
      (adds_by (reply (answer.here n)) v w refl (λ m. omega arith) (λ m. omega arith))
      (λ mv up. let z = bits_low (s.name n) 1 here in let z₀ = z.0 in
      let z₄ = z.3 in word.away_with f k n (s.name n) (s'.name n) (s.home n) (s'.home n)
      s.views (set s.views id w) (ws.names n inside) (λ e. omega arith) (λ e. omega arith) now out (omega arith)
      (omega arith) (omega arith) (omega arith)
      (omega arith))
      (λ up. (let b = up (answer.here n) in omega arith, alive))
      (λ old. record {
        active = active;
        strays = old.strays;
        last = old.last;
        right = record { bit = old.right.bit; current = old.right.current; has = old.right.has };
        build = record {
          unborn = old.build.unborn;
          lost = old.build.lost;
          settled = more_born s'.name n v.build.settled
              alive old.build.settled;
        };
        pins = old.pins;
        inside = record {
          getting = λ m e. let same : n ≡ m = omega arith in
              subst (λ z. (z < f.names) × PinHolds f v.hold v.work z) same (inside, pin);
          bearing = λ m e. absurd (omega arith);
          retaking = λ m e. absurd (omega arith);
          losing = λ m e. absurd (omega arith);
          dropping = λ m e. absurd (omega arith);
          trying = λ m e. absurd (omega arith);
        };
      })

  -- give
  pub gives : (n i y : ℕ) → v.inside.getting ≡ n + 1 → ButName f s n s' → s'.name n ≡ 1 → HasCell f n (s'.home n)
      → Ruled f k (After f k s id v (noted steps i y (row.gave v)) s')
  gives n i y has_it but now full = let w : View = noted steps i y (row.gave v) in let ws = r.words in
      let mine = r.each id v at in
      let inside = (mine.inside.getting n has_it).0 in let one = bit_is v.inside.getting (n + 1) has_it in
      let none : bit 0 (n + 1) ≡ 0 = bit_not 0 (n + 1) (λ e. omega arith) in
      let there = total_at (in_get n) s.views id v at in
      let taken : s.name n ≡ 2 = (let t = (ws.names n inside).taken in bit_eq (s.name n) 2 (omega arith)) in
      renamed f k s id v w s' n silence refl r at refl but (omega arith, omega arith) (λ z. omega arith)
      (λ m ne. record {
        counts = ap (λ z. record (parts m v) { in_get = z }) (back_else m n v.inside.getting ne has_it);
        lost_by = λ l. refl;
      })
      (adds_by silence v w refl (λ m. omega arith) (λ m. omega arith))
      (λ mv up. let z = bits_low (s'.name n) 1 now in let z₂ = z.2 in
      let z₃ = z.3 in word.back_with f k n (s.name n) (s'.name n) (s.home n) (s'.home n)
      s.views (set s.views id w) (ws.names n inside) taken (λ z. omega arith) (λ z. omega arith) (omega arith)
      (omega arith) (omega arith) (omega arith) (omega arith)
      (λ _. full) (λ ne. absurd (ne now)) (λ l z. absurd (omega arith)) (λ z. absurd (omega arith)))
      (λ up. tt)
      (λ old. record {
        active = active;
        strays = old.strays;
        last = old.last;
        right = old.right;
        build = record { unborn = old.build.unborn; lost = old.build.lost; settled = old.build.settled };
        pins = old.pins;
        inside = record {
          getting = λ m e. absurd (omega arith);
          bearing = old.inside.bearing;
          retaking = old.inside.retaking;
          losing = old.inside.losing;
          dropping = old.inside.dropping;
          trying = old.inside.trying;
        };
      })

module _ (f : File) (k : Opening) (s : State) (id : ℕ) (v : View) (r : Ruled f k s) (at : get_elem? s.views id ≡ some v)
    (active : Active v) (s' : State) where
  -- the name is still Unborn, and becomes Taken
  pub bears : (n i y : ℕ) → Free v → n < f.names → NextHolds f v.build v.last n → 0 < times n v.build.unborn
      → ButName f s n s' → s'.name n ≡ 2 → s'.home n ≡ away
      → Ruled f k (After f k s id v (counted i y (row.bearing n v)) s')
  bears n i y free inside next told but now out = let ep = but.number in let ename = but.names in
      let w : View = counted i y (row.bearing n v) in
      let mine = r.each id v at in let ws = r.words in let o = outside_of n v free in let o₁ = o.1 in
      let one = bit_is (n + 1) (n + 1) refl in
      let z : v.inside.bearing ≡ 0 = omega arith in let has = next.1.0 in
      let unborn : s.name n ≡ 0 = ⊎_elim (λ e. e) (λ e. absurd (omega arith)) (mine.build.unborn has n told) in
      let on : Onward s.name s'.name = onward_at s.name s'.name n ename (λ _. unborn) (λ z. absurd (omega arith)) in
      let ends : Ends f (tally k s.views) s.name s'.name = ends_at s.name s'.name n ename f (tally k s.views)
      (λ _ z. absurd (omega arith)) in
      named f k s id v w s' n silence refl r at refl but
      (λ m ne. record {
        counts = ap (λ z. record (parts m v) { in_birth = z }) (turn_else m n v.inside.bearing ne z);
        lost_by = λ l. refl;
      })
      (adds_by silence v w refl (λ m. let b = bit_not v.inside.bearing (m + 1) (λ e. omega arith) in
      omega arith) (λ m. omega arith))
      (λ mv up. let z = bits_low (s.name n) 0 unborn in let z₀ = z.0 in
      let z₄ = z.3 in word.away_with f k n (s.name n) (s'.name n) (s.home n) (s'.home n)
      s.views (set s.views id w) (ws.names n inside) (λ e. omega arith) (λ e. omega arith) now out (omega arith)
      (omega arith) (omega arith)
      (omega arith) (omega arith))
      (λ j u ne e h. absurd (one_right f k s id j v u ws at e ne has h)) on ends (λ up. tt)
      record {
        active = active;
        strays = mine.strays;
        last = mine.last;
        right = right_on f k s.number s'.number s.name s'.name (tally k s.views) (tally k (set s.views id w)) v.build
            v.last v.own.begun mine.right (λ _. ep);
        build = record {
          unborn = λ h m l. dite (ℕ_discrete m n) (λ e. inr (omega arith)) (λ ne. ⊎_elim (λ e. inl (ename m ne ∙ e))
              (λ e. absurd (omega arith)) (mine.build.unborn h m l));
          lost = λ h m l. dite (ℕ_discrete m n) (λ e. absurd (⊎_elim
              (λ q. let y = ap s.name e in omega arith) (λ q. ⊎_elim (λ q. let y = ap s.name e in
              omega arith) (λ q. omega arith) q)
              (mine.build.lost h m l))) (λ ne. let y = ename m ne in
              ⊎_elim (λ q. inl (omega arith)) (λ q. inr (⊎_elim (λ q. inl (omega arith))
              (λ q. inr q) q)) (mine.build.lost h m l));
          settled = λ m l e. mine.build.settled m l (on.born m e);
        };
        pins = mine.pins;
        inside = record {
          getting = λ m e. absurd (omega arith);
          bearing = λ m e. let same : n ≡ m = omega arith in
              subst (λ z. (z < f.names) × NextHolds f v.build v.last z) same (inside, next);
          retaking = λ m e. absurd (omega arith);
          losing = λ m e. absurd (omega arith);
          dropping = λ m e. absurd (omega arith);
          trying = λ m e. absurd (omega arith);
        };
      }

  -- the name is Here
  pub is_born : (n : ℕ) → v.inside.bearing ≡ n + 1 → ButName f s n s' → s'.name n ≡ 1 → HasCell f n (s'.home n)
      → Ruled f k (After f k s id v (row.born n v) s')
  is_born n has_it but now full = let w : View = row.born n v in let mine = r.each id v at in let ws = r.words in
      let alive : s'.name n ≢ 0 = λ z. omega arith in let inside = (mine.inside.bearing n has_it).0 in
      let one = bit_is v.inside.bearing (n + 1) has_it in
      let none : bit 0 (n + 1) ≡ 0 = bit_not 0 (n + 1) (λ e. omega arith) in
      let more = times_here n v.made.changes.put in let there = total_at (in_birth n) s.views id v at in
      let taken : s.name n ≡ 2 = (let t = (ws.names n inside).taken in bit_eq (s.name n) 2 (omega arith)) in
      renamed f k s id v w s' n (reply (answer.put n)) refl r at refl but (omega arith, omega arith) alive
      (λ m ne. record {
        counts = λ j. record (parts m v)
            { in_birth = back_else m n v.inside.bearing ne has_it j; puts = times_else m n v.made.changes.put ne j };
        lost_by = λ l. refl;
      })
      (adds_by (reply (answer.put n)) v w refl
      (λ m. dite (ℕ_discrete m n) (λ e. subst (λ z. raises z v ≤ raises z w) (sym e) (omega arith))
      (λ ne. let a = times_else m n v.made.changes.put ne in let b = back_else m n v.inside.bearing ne has_it in
      omega arith)) (λ m. omega arith))
      (λ mv up. let z = bits_low (s'.name n) 1 now in let z₂ = z.2 in
      let z₃ = z.3 in word.back_with f k n (s.name n) (s'.name n) (s.home n) (s'.home n)
      s.views (set s.views id w) (ws.names n inside) taken (λ z. omega arith) (λ z. omega arith) (omega arith)
      (omega arith) (omega arith) (omega arith) (omega arith)
      (λ _. full) (λ ne. absurd (ne now)) (λ l z. absurd (omega arith)) (λ z. absurd (omega arith)))
      (λ up. (tt, alive))
      (λ old. record {
        active = active;
        strays = old.strays;
        last = old.last;
        right = record { bit = old.right.bit; current = old.right.current; has = old.right.has };
        build = record {
          unborn = λ h m l. let q = without_from m n v.build.unborn l in
              ⊎_elim (λ e. inl e) (λ e. absurd (q.0 (omega arith))) (old.build.unborn h m q.1);
          lost = old.build.lost;
          settled = more_born s'.name n v.build.settled alive old.build.settled;
        };
        pins = old.pins;
        inside = record {
          getting = old.inside.getting;
          bearing = λ m e. absurd (omega arith);
          retaking = old.inside.retaking;
          losing = old.inside.losing;
          dropping = old.inside.dropping;
          trying = old.inside.trying;
        };
      })

module _ (f : File) (k : Opening) (s : State) (id : ℕ) (v : View) (r : Ruled f k s) (at : get_elem? s.views id ≡ some v)
    (active : Active v) (s' : State) where
  -- the name is Here, and becomes Taken
  pub loses_turn : (n l i y : ℕ) → Free v → n < f.names → s.name n ≡ 1 → ButName f s n s' → s'.name n ≡ 2
      → s'.home n ≡ away → Ruled f k (After f k s id v (counted i y (row.losing n l v)) s')
  loses_turn n l i y free inside here but now out = let w : View = counted i y (row.losing n l v) in let ws = r.words in
      let o = outside_of n v free in
      let o₃ = o.3 in let one = bit_is (n + 1) (n + 1) refl in let z : v.inside.losing ≡ 0 = omega arith in
      renamed f k s id v w s' n silence refl r at refl but (omega arith, omega arith) (λ z. omega arith)
      (λ m ne. record {
        counts = ap (λ z. record (parts m v) { in_lose = z }) (turn_else m n v.inside.losing ne z);
        lost_by = λ l. refl;
      })
      (adds_by silence v w refl (λ m. omega arith) (λ m. let b = bit_not v.inside.losing (m + 1) (λ e. omega arith) in
      omega arith))
      (λ mv up. let z = bits_low (s.name n) 1 here in let z₀ = z.0 in
      let z₄ = z.3 in word.away_with f k n (s.name n) (s'.name n) (s.home n) (s'.home n)
      s.views (set s.views id w) (ws.names n inside) (λ e. omega arith) (λ e. omega arith) now out (omega arith)
      (omega arith) (omega arith) (omega arith)
      (omega arith))
      (λ up. tt)
      (λ old. record {
        active = active;
        strays = old.strays;
        last = old.last;
        right = old.right;
        build = record { unborn = old.build.unborn; lost = old.build.lost; settled = old.build.settled };
        pins = old.pins;
        inside = record {
          getting = λ m e. absurd (omega arith);
          bearing = λ m e. absurd (omega arith);
          retaking = λ m e. absurd (omega arith);
          losing = λ m e. omega arith;
          dropping = λ m e. absurd (omega arith);
          trying = λ m e. absurd (omega arith);
        };
      })

  -- the name is Lost
  pub is_lost : (n l : ℕ) → v.inside.losing ≡ n + 1 → IsLoseLine f n l → ButName f s n s' → s'.name n ≡ 4 + l
      → s'.home n ≡ empty → Ruled f k (After f k s id v (row.lost n l v) s')
  is_lost n l has_it line but now bare = let w : View = row.lost n l v in let ws = r.words in
      let mine = r.each id v at in
      let inside = mine.inside.losing n has_it in let one = bit_is v.inside.losing (n + 1) has_it in
      let none : bit 0 (n + 1) ≡ 0 = bit_not 0 (n + 1) (λ e. omega arith) in
      let more = losses_here n l v.made.changes.lost in
      let there = total_at (in_lose n) s.views id v at in let by_line = lines_here n l v.made.changes.lost in
      let taken : s.name n ≡ 2 = (let t = (ws.names n inside).taken in bit_eq (s.name n) 2 (omega arith)) in
      let by : 0 < tally k (set s.views id w) (answer.lost n l) = (let a = total_set (loses_by n l) s.views id v w at in
      let b = total_at (loses_by n l) s.views id v at in omega arith) in
      renamed f k s id v w s' n (reply (answer.made_lost n l)) refl r at refl but (omega arith, omega arith)
      (λ z. omega arith)
      (λ m ne. record {
        counts = λ j. record (parts m v)
            { in_lose = back_else m n v.inside.losing ne has_it j; loses = losses_else m n l v.made.changes.lost ne j };
        lost_by = λ j. lines_other m n j l v.made.changes.lost ne;
      })
      (adds_by (reply (answer.made_lost n l)) v w refl (λ m. omega arith)
      (λ m. dite (ℕ_discrete m n) (λ e. subst (λ z. hides z v ≤ hides z w) (sym e) (omega arith))
      (λ ne. let a = losses_else m n l v.made.changes.lost ne in let b = back_else m n v.inside.losing ne has_it in
      omega arith)))
      (λ mv up. let z = bits_lost (s'.name n) (omega arith) in let z₂ = z.2 in
      let z₃ = z.3 in word.back_with f k n (s.name n) (s'.name n) (s.home n) (s'.home n)
      s.views (set s.views id w) (ws.names n inside) taken (λ z. omega arith) (λ z. omega arith) (omega arith)
      (omega arith) (omega arith) (omega arith) (omega arith)
      (λ z. absurd (omega arith)) (λ _. bare)
      (λ j z. subst (λ y. (0 < tally k (set s.views id w) (answer.lost n y)) × IsLoseLine f n y)
      (let c : l ≡ j = omega arith in c) (by, line)) (λ z. absurd (omega arith)))
      (λ up. (tt, tt))
      (λ old. record {
        active = active;
        strays = old.strays;
        last = old.last;
        right = old.right;
        build = record { unborn = old.build.unborn; lost = old.build.lost; settled = old.build.settled };
        pins = old.pins;
        inside = record {
          getting = old.inside.getting;
          bearing = old.inside.bearing;
          retaking = old.inside.retaking;
          losing = λ m e. absurd (omega arith);
          dropping = old.inside.dropping;
          trying = old.inside.trying;
        };
      })

-- a generation that a pin is on, or the next one, isn't closed
pub pin_open : (f : File) (k : Opening) (s : State) (id g : ℕ) (v : View) → Ruled f k s → get_elem? s.views id ≡ some v
    → g < f.stages → 0 < live g v → tally k s.views (answer.closed g) ≡ 0
pin_open f k s id g v r at l alive = dite (ℕ_discrete (tally k s.views (answer.closed g)) 0) (λ e. e)
    (λ ne. let t = (r.words.pins g l).low (omega arith) in
    let z = t.1 in let a = total_at (live g) s.views id v at in absurd (omega arith))

pub next_open : (f : File) (k : Opening) (s : State) (id g : ℕ) (v : View) → Ruled f k s → get_elem? s.views id ≡ some v
    → IsNext f v.build v.last g → tally k s.views (answer.closed g) ≡ 0
next_open f k s id g v r at next = dite (ℕ_discrete (tally k s.views (answer.closed g)) 0) (λ e. e)
    (λ ne. let t = (r.words.pins g next.3).low (omega arith) in let z = t.0 in
    let c = (r.each id v at).right.current next.0 next.1 in
    let d = next.2 in absurd (omega arith))

pub work_open : (f : File) (k : Opening) (s : State) (id n : ℕ) (v : View) → Ruled f k s → get_elem? s.views id ≡ some v
    → WorkHolds f v.build v.last v.work n → (g : ℕ) × (g < f.stages) × Holds f g n ×
    (tally k s.views (answer.closed g) ≡ 0)
work_open f k s id n v r at work = ⊎_elim
    (λ t. let e = t.2 in let b = bit_is v.work (t.0 + 1) e in
    (t.0, t.1, t.3, pin_open f k s id t.0 v r at t.1 (omega arith)))
    (λ t. (t.0, t.1.3, t.2, next_open f k s id t.0 v r at t.1)) work.1

-- a name that may be seen isn't Dropped
pub not_left : (f : File) (k : Opening) (s : State) (id n : ℕ) (v : View) → Ruled f k s → get_elem? s.views id ≡ some v
    → n < f.names → PinHolds f v.hold v.work n ⊎ NextHolds f v.build v.last n → s.name n ≢ 3
not_left f k s id n v r at inside may e = let left = (r.words.names n inside).left e in
    ⊎_elim (λ t. let z = pin_open f k s id t.0 v r at t.1 t.2 in let y = left t.0 t.1 t.3 in omega arith)
    (λ t. let z = next_open f k s id t.0 v r at t.1 in let y = left t.0 t.1.3 t.2 in omega arith) may

module _ (f : File) (k : Opening) (s : State) (id : ℕ) (v : View) (r : Ruled f k s) (at : get_elem? s.views id ≡ some v)
    (active : Active v) (s' : State) where
  -- the name is still Lost, since a generation that holds it is open, and becomes Taken
  pub retakes : (n i y : ℕ) → Free v → n < f.names → WorkHolds f v.build v.last v.work n → 0 < times n v.build.lost
      → ButName f s n s' → s'.name n ≡ 2 → s'.home n ≡ away
      → Ruled f k (After f k s id v (counted i y (row.retaking n v)) s')
  retakes n i y free inside work told but now out = let ep = but.number in let ename = but.names in
      let w : View = counted i y (row.retaking n v) in
      let mine = r.each id v at in let ws = r.words in let o = outside_of n v free in let o₂ = o.2 in
      let one = bit_is (n + 1) (n + 1) refl in
      let z : v.inside.retaking ≡ 0 = omega arith in let has = work.0 in
      let open_now = work_open f k s id n v r at work in
      let lost : 4 ≤ s.name n = ⊎_elim (λ l. l)
      (λ q. ⊎_elim (λ e. let t = (ws.names n inside).left e open_now.0 open_now.1 open_now.2 in
      let z = open_now.3 in absurd (omega arith)) (λ e. absurd (omega arith)) q) (mine.build.lost has n told) in
      let on : Onward s.name s'.name = onward_at s.name s'.name n ename (λ z. absurd (omega arith))
      (λ z. absurd (omega arith)) in
      let ends : Ends f (tally k s.views) s.name s'.name = ends_at s.name s'.name n ename f (tally k s.views)
      (λ shut _. let t = shut open_now.0 open_now.1 open_now.2 in let z = open_now.3 in absurd (omega arith)) in
      named f k s id v w s' n silence refl r at refl but
      (λ m ne. record {
        counts = ap (λ z. record (parts m v) { in_retake = z }) (turn_else m n v.inside.retaking ne z);
        lost_by = λ l. refl;
      })
      (adds_by silence v w refl (λ m. let b = bit_not v.inside.retaking (m + 1) (λ e. omega arith) in
      omega arith) (λ m. omega arith))
      (λ mv up. let z = bits_lost (s.name n) lost in let z₀ = z.0 in
      let z₄ = z.3 in word.away_with f k n (s.name n) (s'.name n) (s.home n) (s'.home n)
      s.views (set s.views id w) (ws.names n inside) (λ e. omega arith) (λ e. omega arith) now out (omega arith)
      (omega arith) (omega arith) (omega arith)
      (omega arith))
      (λ j u ne e h. absurd (one_right f k s id j v u ws at e ne has h)) on ends (λ up. tt)
      record {
        active = active;
        strays = mine.strays;
        last = mine.last;
        right = right_on f k s.number s'.number s.name s'.name (tally k s.views) (tally k (set s.views id w)) v.build
            v.last v.own.begun mine.right (λ _. ep);
        build = record {
          unborn = λ h m l. dite (ℕ_discrete m n) (λ e. absurd (⊎_elim (λ q. let y = ap s.name e in
              omega arith) (λ q. omega arith)
              (mine.build.unborn h m l))) (λ ne. ⊎_elim (λ e. inl (ename m ne ∙ e)) (λ e. inr e)
              (mine.build.unborn h m l));
          lost = λ h m l. dite (ℕ_discrete m n) (λ e. inr (inr (omega arith))) (λ ne. let y = ename m ne in
              ⊎_elim (λ q. inl (omega arith))
              (λ q. inr (⊎_elim (λ q. inl (omega arith)) (λ q. absurd (omega arith)) q)) (mine.build.lost h m l));
          settled = λ m l e. mine.build.settled m l (on.born m e);
        };
        pins = mine.pins;
        inside = record {
          getting = λ m e. absurd (omega arith);
          bearing = λ m e. absurd (omega arith);
          retaking = λ m e. let same : n ≡ m = omega arith in
              subst (λ z. (z < f.names) × WorkHolds f v.build v.last v.work z) same (inside, work);
          losing = λ m e. absurd (omega arith);
          dropping = λ m e. absurd (omega arith);
          trying = λ m e. absurd (omega arith);
        };
      }

  -- the name is Here again
  pub is_restored : (n : ℕ) → v.inside.retaking ≡ n + 1 → ButName f s n s' → s'.name n ≡ 1 → HasCell f n (s'.home n)
      → Ruled f k (After f k s id v (row.restored n v) s')
  is_restored n has_it but now full = let w : View = row.restored n v in let mine = r.each id v at in
      let ws = r.words in
      let alive : s'.name n ≢ 0 = λ z. omega arith in let inside = (mine.inside.retaking n has_it).0 in
      let more = times_here n v.made.changes.restored in let one = bit_is v.inside.retaking (n + 1) has_it in
      let none : bit 0 (n + 1) ≡ 0 = bit_not 0 (n + 1) (λ e. omega arith) in
      let there = total_at (in_retake n) s.views id v at in
      let taken : s.name n ≡ 2 = (let t = (ws.names n inside).taken in bit_eq (s.name n) 2 (omega arith)) in
      renamed f k s id v w s' n (reply (answer.restored n)) refl r at refl but (omega arith, omega arith) alive
      (λ m ne. record {
        counts = λ j. record (parts m v) {
          in_retake = back_else m n v.inside.retaking ne has_it j;
          restores = times_else m n v.made.changes.restored
              ne j;
        };
        lost_by = λ l. refl;
      })
      (adds_by (reply (answer.restored n)) v w refl
      (λ m. dite (ℕ_discrete m n) (λ e. subst (λ z. raises z v ≤ raises z w) (sym e) (omega arith))
      (λ ne. let a = times_else m n v.made.changes.restored ne in let b = back_else m n v.inside.retaking ne has_it in
      omega arith)) (λ m. omega arith))
      (λ mv up. let z = bits_low (s'.name n) 1 now in let z₂ = z.2 in
      let z₃ = z.3 in word.back_with f k n (s.name n) (s'.name n) (s.home n) (s'.home n)
      s.views (set s.views id w) (ws.names n inside) taken (λ z. omega arith) (λ z. omega arith) (omega arith)
      (omega arith) (omega arith) (omega arith) (omega arith)
      (λ _. full) (λ ne. absurd (ne now)) (λ l z. absurd (omega arith)) (λ z. absurd (omega arith)))
      (λ up. (tt, alive))
      (λ old. record {
        active = active;
        strays = old.strays;
        last = old.last;
        right = record { bit = old.right.bit; current = old.right.current; has = old.right.has };
        build = record {
          unborn = old.build.unborn;
          lost = λ h m l. let q = without_from m n v.build.lost l in ⊎_elim (λ e. inl e) (λ t. inr (⊎_elim (λ e. inl e)
              (λ e. absurd (q.0 (omega arith))) t)) (old.build.lost h m q.1);
          settled = more_born s'.name n v.build.settled alive old.build.settled;
        };
        pins = old.pins;
        inside = record {
          getting = old.inside.getting;
          bearing = old.inside.bearing;
          retaking = λ m e. absurd (omega arith);
          losing = old.inside.losing;
          dropping = old.inside.dropping;
          trying = old.inside.trying;
        };
      })
