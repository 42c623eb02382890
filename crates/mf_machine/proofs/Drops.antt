-- drop
use Rattle.std.proofs.Common.{◌≡◌, ◌⊎◌, ℕ, ◌+◌, ◌<◌, ◌≤◌, set, sym, refl, ap, subst, ⊎_elim, inl, inr, arith}
use mathlib.Core.Logic.{dite}
use mathlib.Core.Option.{some}
use native.Mathlib.Decide.{ℕ_discrete}
use lib.ListN.{get_elem?}
use Rattle.mf_machine.specs.declared.view.View.{View}
use Rattle.mf_machine.specs.Actors.{Active, Free, AllShown}
use Rattle.mf_machine.specs.Answers as answer
use Rattle.mf_machine.specs.Counts.{bit, total}
use Rattle.mf_machine.specs.File.{File, Opening, State, Holds}
use Rattle.mf_machine.specs.File.Home.{away, empty}
use Rattle.mf_machine.specs.Ruled.{Ruled}
use Rattle.mf_machine.specs.Steps as row
use Rattle.mf_machine.specs.Sums.{in_get, in_birth, in_retake, in_lose, in_drop, hides, tally}
use Rattle.mf_machine.specs.Worlds.{counted}
use Rattle.mf_machine.proofs.Entering.{silence, reply}
use Rattle.mf_machine.proofs.Frames.{Onward, Builds, Ends, shown_shut, sits_on}
use Rattle.mf_machine.proofs.Lists.{bit_is, bit_not, bit_eq, times_here, times_else, times_more}
use Rattle.mf_machine.proofs.Turns.{pin_open, next_open, work_open}
use Rattle.mf_machine.proofs.Steps.{Adds, ButName, After, grows, parts, adds_by, calm}
use Rattle.mf_machine.proofs.Totals.{total_at, total_some}
use Rattle.mf_machine.proofs.Words as word
use Rattle.mf_machine.proofs.Words.{bits_lost, onward_at, builds_at, ends_at, outside_of, turn_else, back_else, named}
use Rattle.mf_machine.proofs.Words.{renamed, bits_low, hides_parts}

-- a Taken name of closed generations alone is inside a lose or a drop
pub only_going : (f : File) (k : Opening) (s : State) (n : ℕ) → Ruled f k s → n < f.names → ((g : ℕ) → g < f.stages
    → Holds f g n
    → 0 < tally k s.views (answer.closed g)) → s.name n ≡ 2 → 0 < total (in_lose n) s.views + total (in_drop n) s.views
only_going f k s n r inside shut is = let t = (r.words.names n inside).taken in let b = bit_is (s.name n) 2 is in
    let none : (h : View → ℕ) → ((j : ℕ) (u : View) → get_elem? s.views j ≡ some u → 0 < h u → ⊥)
    → total h s.views ≡ 0 = λ h no. dite (ℕ_discrete (total h s.views) 0) (λ e. e)
    (λ ne. let o = total_some h s.views (omega arith) in absurd (no o.0 o.1 o.2 o.3)) in
    let a = none (in_get n) (λ j u e l. let p = (r.each j u e).inside.getting n (bit_eq u.inside.getting (n + 1) l) in
    let h = p.1 in
    let z = pin_open f k s j h.0 u r e h.1 h.2 in let y = shut h.0 h.1 h.3 in omega arith) in
    let c = none (in_birth n) (λ j u e l. let p = (r.each j u e).inside.bearing n (bit_eq u.inside.bearing (n + 1) l) in
    let h = p.1 in
    let z = next_open f k s j h.0 u r e h.1 in let y = shut h.0 h.1.3 h.2 in omega arith) in
    let d = none (in_retake n) (λ j u e l. let p = (r.each j u e).inside.retaking n (bit_eq u.inside.retaking (n + 1) l)
    in
    let h = work_open f k s j n u r e p.1 in let y = shut h.0 h.1 h.2 in let z = h.3 in omega arith) in omega arith

module _ (f : File) (k : Opening) (s : State) (id : ℕ) (v : View) (r : Ruled f k s) (at : get_elem? s.views id ≡ some v)
    (active : Active v) (s' : State) where
  -- each generation that holds a name which is being dropped is closed
  shut : (n : ℕ) → AllShown f v.own n → (g : ℕ) → g < f.stages → Holds f g n → 0 < tally k s.views (answer.closed g)
  shut n shown = shown_shut f k s.number s.number s.name s.name (tally k s.views) (tally k s.views) v.own n
      (r.each id v at).own shown

  -- the name is Here, and becomes Taken
  pub drops_turn : (n i y : ℕ) → Free v → n < f.names → AllShown f v.own n → s.name n ≡ 1 → ButName f s n s'
      → s'.name n ≡ 2 → s'.home n ≡ away → Ruled f k (After f k s id v (counted i y (row.dropping n v)) s')
  drops_turn n i y free inside shown here but now out = let w : View = counted i y (row.dropping n v) in
      let ws = r.words in let o = outside_of n v free in
      let o₄ = o.4 in let one = bit_is (n + 1) (n + 1) refl in let z : v.inside.dropping ≡ 0 = omega arith in
      renamed f k s id v w s' n silence refl r at refl but (omega arith, omega arith) (λ z. omega arith)
      (λ m ne. record {
        counts = ap (λ z. record (parts m v) { in_drop = z }) (turn_else m n v.inside.dropping ne z);
        lost_by = λ l. refl;
      })
      (adds_by silence v w refl (λ m. omega arith) (λ m. let b = bit_not v.inside.dropping (m + 1) (λ e. omega arith) in
      omega arith))
      (λ mv up. let z = bits_low (s.name n) 1 here in let z₀ = z.0 in
      let z₄ = z.3 in word.away_with f k n (s.name n) (s'.name n) (s.home n) (s'.home n)
      s.views (set s.views id w) (ws.names n inside) (λ e. omega arith) (λ e. omega arith) now out (omega arith)
      (omega arith) (omega arith) (omega arith)
      (omega arith))
      (λ up. tt)
      (λ old. record {
        active = active;
        strays = old.strays;
        last = old.last;
        right = old.right;
        build = record { unborn = old.build.unborn; lost = old.build.lost; settled = old.build.settled };
        pins = old.pins;
        inside = record {
          getting = λ m e. absurd (omega arith);
          bearing = λ m e. absurd (omega arith);
          retaking = λ m e. absurd (omega arith);
          losing = λ m e. absurd (omega arith);
          dropping = λ m e. let same : n ≡ m = omega arith in subst (λ z. (z < f.names) × AllShown f v.own z) same
              (inside, shown);
          trying = λ m e. absurd (omega arith);
        };
      })

  -- the name is Dropped
  pub is_dropped : (n : ℕ) → v.inside.dropping ≡ n + 1 → ButName f s n s' → s'.name n ≡ 3 → s'.home n ≡ empty
      → Ruled f k (After f k s id v (row.dropped n v) s')
  is_dropped n has_it but now bare = let w : View = row.dropped n v in let mine = r.each id v at in let ws = r.words in
      let inside = (mine.inside.dropping n has_it).0 in let more = times_here n v.made.changes.dropped in
      let one = bit_is v.inside.dropping (n + 1) has_it in
      let none : bit 0 (n + 1) ≡ 0 = bit_not 0 (n + 1) (λ e. omega arith) in
      let there = total_at (in_drop n) s.views id v at in
      let taken : s.name n ≡ 2 = (let t = (ws.names n inside).taken in bit_eq (s.name n) 2 (omega arith)) in
      renamed f k s id v w s' n (reply (answer.dropped n)) refl r at refl but (omega arith, omega arith)
      (λ z. omega arith)
      (λ m ne. record {
        counts = λ j. record (parts m v) {
          in_drop = back_else m n v.inside.dropping ne has_it j;
          drops = times_else m n v.made.changes.dropped ne j;
        };
        lost_by = λ l. refl;
      })
      (adds_by (reply (answer.dropped n)) v w refl (λ m. omega arith)
      (λ m. dite (ℕ_discrete m n) (λ e. subst (λ z. hides z v ≤ hides z w) (sym e) (omega arith))
      (λ ne. let a = times_else m n v.made.changes.dropped ne in let b = back_else m n v.inside.dropping ne has_it in
      omega arith)))
      (λ mv up. let z = bits_low (s'.name n) 3 now in let z₂ = z.2 in
      let z₃ = z.3 in word.back_with f k n (s.name n) (s'.name n) (s.home n) (s'.home n)
      s.views (set s.views id w) (ws.names n inside) taken (λ z. omega arith) (λ z. omega arith) (omega arith)
      (omega arith) (omega arith) (omega arith) (omega arith)
      (λ z. absurd (omega arith)) (λ _. bare) (λ l z. absurd (omega arith))
      (λ _. λ g l h. let a = shut n (mine.inside.dropping n has_it).1 g l h in let b = up (answer.closed g) in
      omega arith))
      (λ up. (tt, now))
      (λ old. record {
        active = active;
        strays = old.strays;
        last = old.last;
        right = old.right;
        build = record { unborn = old.build.unborn; lost = old.build.lost; settled = old.build.settled };
        pins = old.pins;
        inside = record {
          getting = old.inside.getting;
          bearing = old.inside.bearing;
          retaking = old.inside.retaking;
          losing = old.inside.losing;
          dropping = λ m e. absurd (omega arith);
          trying = old.inside.trying;
        };
      })

  -- the second try, which met the word of the first: the name is Dropped
  pub drops_lost : (n i y : ℕ) → v.inside.trying ≡ n + 1 → s.name n ≡ v.inside.tried → ButName f s n s' → s'.name n ≡ 3
      → s'.home n ≡ s.home n
      → Ruled f k (After f k s id v (counted i y (row.dropped_lost n v)) s')
  drops_lost n i y has_it same but now stays = let ep = but.number in let ename = but.names in
      let w : View = counted i y (row.dropped_lost n v) in
      let mine = r.each id v at in let ws = r.words in
      let try = mine.inside.trying n has_it in let inside = try.0 in let more = times_here n v.made.changes.dropped in
      let lost : 4 ≤ s.name n = (let a = try.2 in omega arith) in
      let on : Onward s.name s'.name = onward_at s.name s'.name n ename (λ z. absurd (omega arith)) (λ z. now) in
      let builds : Builds s.name s'.name = builds_at s.name s'.name n ename (λ z. absurd (omega arith))
      (λ _. inr now) in
      let ends : Ends f (tally k s.views) s.name s'.name = ends_at s.name s'.name n ename f (tally k s.views)
      (λ _ _. inr now) in
      let add : Adds v w = adds_by (reply (answer.dropped n)) v w refl (λ m. omega arith)
      (λ m. let a = times_more m n v.made.changes.dropped in omega arith) in
      let old = sits_on f k s.number s'.number s.name s'.name (tally k s.views) (tally k (set s.views id w)) v mine
      (omega arith) (λ _. ep)
      (grows f k s.views id v w at add) on (λ _. builds) ends in
      named f k s id v w s' n (reply (answer.dropped n)) refl r at refl but
      (λ m ne. record {
        counts = ap (λ z. record (parts m v) { drops = z }) (times_else m n v.made.changes.dropped ne);
        lost_by = λ l. refl;
      }) add
      (λ mv up. word.lost_dropped f k n (s.name n) (s'.name n) (s.home n) (s'.home n)
      s.views (set s.views id w) (ws.names n inside) lost now stays
      (λ g l h. let a = shut n try.1 g l h in let b = up (answer.closed g) in omega arith) (omega arith) (omega arith)
      (omega arith))
      (λ j u ne e h. builds) on ends (λ up. (tt, now))
      (record {
        active = active;
        strays = old.strays;
        last = old.last;
        right = old.right;
        build = record { unborn = old.build.unborn; lost = old.build.lost; settled = old.build.settled };
        pins = old.pins;
        inside = record {
          getting = old.inside.getting;
          bearing = old.inside.bearing;
          retaking = old.inside.retaking;
          losing = old.inside.losing;
          dropping = old.inside.dropping;
          trying = λ m e. absurd (omega arith);
        };
      })

module _ (f : File) (k : Opening) (s : State) (id i n : ℕ) (v : View) (r : Ruled f k s)
    (at : get_elem? s.views id ≡ some v) (active : Active v) (inside : n < f.names) where
  -- the first try met Lost
  pub drops_try : Free v → AllShown f v.own n → 4 ≤ s.name n → Ruled f k
      (record s { views = set s.views id (counted i (s.name n) (row.trying n (s.name n) v)) })
  drops_try free shown lost = let w : View = counted i (s.name n) (row.trying n (s.name n) v) in
      let mine = r.each id v at in
      calm f k s id v w silence refl r at refl (λ m. record { counts = refl; lost_by = λ l. refl }) (λ add up. tt)
      (λ up. record {
        active = active;
        strays = mine.strays;
        last = mine.last;
        right = mine.right;
        build = record { unborn = mine.build.unborn; lost = mine.build.lost; settled = mine.build.settled };
        pins = mine.pins;
        inside = record {
          getting = λ m e. absurd (omega arith);
          bearing = λ m e. absurd (omega arith);
          retaking = λ m e. absurd (omega arith);
          losing = λ m e. absurd (omega arith);
          dropping = λ m e. absurd (omega arith);
          trying = λ m e. let same : n ≡ m = omega arith in subst
              (λ z. (z < f.names) × AllShown f v.own z × (4 ≤ s.name n) × ((s.name z ≡ s.name n) ⊎ (s.name z ≡ 3))) same
              (inside, shown, lost, inl refl);
        };
      })

  -- a drop that changes nothing
  pub drops_nothing : AllShown f v.own n → (s.name n ≡ 0) ⊎ ((s.name n ≡ 2) ⊎ (s.name n ≡ 3))
      → Ruled f k (record s { views = set s.views id (counted i (s.name n) (row.not_dropped n v)) })
  drops_nothing shown met = let w : View = counted i (s.name n) (row.not_dropped n v) in let mine = r.each id v at in
      let name = r.words.names n inside in
      let parts = hides_parts n s.views in let b = name.born in let d = name.dropped in
      let cause : 0 < tally k s.views (answer.not_dropped n) = ⊎_elim (λ e. let z = bits_low (s.name n) 0 e in
      let z₀ = z.0 in omega arith) (λ q. ⊎_elim
      (λ e. let c = only_going f k s n r inside (shown_shut f k s.number s.number s.name s.name (tally k s.views)
      (tally k s.views) v.own n mine.own shown) e in omega arith) (λ e. let z = bits_low (s.name n) 3 e in
      let z₃ = z.2 in omega arith) q) met in
      calm f k s id v w (reply (answer.not_dropped n)) refl r at refl
      (λ m. record { counts = refl; lost_by = λ l. refl })
      (λ add up. (let b = up (answer.not_dropped n) in omega arith, tt))
      (λ up. record {
        active = active;
        strays = mine.strays;
        last = mine.last;
        right = mine.right;
        build = record { unborn = mine.build.unborn; lost = mine.build.lost; settled = mine.build.settled };
        pins = mine.pins;
        inside = record {
          getting = mine.inside.getting;
          bearing = mine.inside.bearing;
          retaking = mine.inside.retaking;
          losing = mine.inside.losing;
          dropping = mine.inside.dropping;
          trying = λ m e. absurd (omega arith);
        };
      })
