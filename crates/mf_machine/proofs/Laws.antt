-- Each move keeps the rule, and so does every list of them.
use Rattle.std.proofs.Common.{◌≡◌, ◌≢◌, ℕ, ◌+◌, ◌-◌, ◌<◌, Bool, true, false, cond, eqb, ltb, leb, List, [], ◌∷◌, get_or}
use Rattle.std.proofs.Common.{set, sym, refl, ap, ◌∙◌, subst, ⊎_elim, inl, inr, arith, eq-eqb, ne_eqb, get_or-set_same}
use Rattle.std.proofs.Common.{get_or-set_other}
use Rattle.std.proofs.lemmas.Bool.{lt-ltb, le-ltb, le-leb, lt-leb}
use mathlib.Core.Logic.{dite}
use mathlib.Core.Option.{some}
use native.Mathlib.Decide.{ℕ_discrete, dec_le}
use lib.ListN.{get_elem?}
use lib.Seq.{set-get_or}
use Rattle.mf_machine.specs.declared.answer.Closed.TheVariants as closing
use Rattle.mf_machine.specs.declared.answer.LoseStep.TheVariants as lose
use Rattle.mf_machine.specs.declared.answer.Slot.{Slot}
use Rattle.mf_machine.specs.declared.answer.Slot.TheVariants.{Hold, Work}
use Rattle.mf_machine.specs.declared.answer.State.TheVariants as told
use Rattle.mf_machine.specs.declared.view.View.{View}
use Rattle.mf_machine.specs.Actors.{Active, Idle, Free, on, live, slot_of}
use Rattle.mf_machine.specs.Counts.{bit}
use Rattle.mf_machine.specs.File.{File, Opening, State, Home, HasCell, name_word}
use Rattle.mf_machine.specs.File.Home.{away, empty}
use Rattle.mf_machine.specs.Moves.{Move, Deed, after, done, May, MayDo, Runs, run, Reached}
use Rattle.mf_machine.specs.Moves as move
use Rattle.mf_machine.specs.Rest.{Rest}
use Rattle.mf_machine.specs.Ruled.{Ruled}
use Rattle.mf_machine.specs.Steps.{MayPin, MayClose, MayBirth, MayTake, MayLose, MayRetake, MayDrop, MayDropAgain}
use Rattle.mf_machine.specs.Steps.{MaySee, MayPublish}
use Rattle.mf_machine.specs.Steps as row
use Rattle.mf_machine.specs.Sums.{share_of}
use Rattle.mf_machine.specs.Worlds.{World, stays, comes_out, read, word_of, actor, Fits, counted, homes_after}
use Rattle.mf_machine.proofs.Deeds.{here, fits_on}
use Rattle.mf_machine.proofs.Lists.{bit_is, bit_not}
use Rattle.mf_machine.proofs.Totals.{total_at}
use Rattle.mf_machine.proofs.Steps.{ButPins, ButRight, ButNumber, ButName}
use Rattle.mf_machine.proofs.Numbers as numbers
use Rattle.mf_machine.proofs.Pins as pins
use Rattle.mf_machine.proofs.Seats as seats
use Rattle.mf_machine.proofs.Sees as sees
use Rattle.mf_machine.proofs.Turns as turns
use Rattle.mf_machine.proofs.Drops as drops
use Rattle.mf_machine.proofs.Openings.{opens}

-- a fact of the value of a test
pub picked : (P : Bool → Type 0) (b c : Bool) → b ≡ c → P c → P b
picked P b c e p = subst P (sym e) p

module _ (f : File) (k : Opening) (rest : Rest f k) (w : World) (fits : Fits f w) (r : Ruled f k (read f w)) (id : ℕ)
    (active : Active (actor w id)) where
  abbrev s : State
  s = read f w

  abbrev v : View
  v = actor w id

  at : get_elem? w.views id ≡ some (actor w id)
  at = here w id active

  -- the state with one word written, these slots, and this view of the actor
  abbrev Then : (i y : ℕ) → List Home → State
  Then i y H = read f (record w { words = set w.words i y; homes = H })

  abbrev Now : (i y : ℕ) → List Home → View → State
  Now i y H u = record (Then i y H) { views = set w.views id u }

  -- a row that writes what it met
  told_only : (i : ℕ) (u : View) → Ruled f k (record s { views = set w.views id u }) → Ruled f k
      (Now i (word_of w i) w.homes u)
  told_only i u h = subst (λ (l : List ℕ). Ruled f k
      (record (read f (record w { words = l })) { views = set w.views id u })) (sym (set-get_or w.words i 0)) h

  -- what one written word leaves
  but_pins : (g y : ℕ) → g < f.stages → ButPins s g (Then (g + 2) y w.homes)
  but_pins g y below = record {
    number = get_or-set_other w.words (g + 2) 0 y 0 (λ e. omega arith);
    right = get_or-set_other w.words (g + 2) 1 y 0 (λ e. omega arith);
    pins = λ h ne. get_or-set_other w.words (g + 2) (h + 2) y 0 (λ e. ne (omega arith));
    names = λ m. get_or-set_other w.words (g + 2) (name_word f m) y 0 (λ e. omega arith);
    homes = λ m. refl;
  }

  is_pins : (g y : ℕ) → g < f.stages → get_or (set w.words (g + 2) y) (g + 2) 0 ≡ y
  is_pins g y below = let wide = fits.wide in get_or-set_same w.words (g + 2) y 0 (omega arith)

  but_right : (y : ℕ) → ButRight s (Then 1 y w.homes)
  but_right y = record {
    number = get_or-set_other w.words 1 0 y 0 (λ e. omega arith);
    pins = λ g. get_or-set_other w.words 1 (g + 2) y 0 (λ e. omega arith);
    names = λ m. get_or-set_other w.words 1 (name_word f m) y 0 (λ e. omega arith);
    homes = λ m. refl;
  }

  is_right : (y : ℕ) → get_or (set w.words 1 y) 1 0 ≡ y
  is_right y = let wide = fits.wide in get_or-set_same w.words 1 y 0 (omega arith)

  but_number : (y : ℕ) → ButNumber s (Then 0 y w.homes)
  but_number y = record {
    right = get_or-set_other w.words 0 1 y 0 (λ e. omega arith);
    pins = λ g. get_or-set_other w.words 0 (g + 2) y 0 (λ e. omega arith);
    names = λ m. get_or-set_other w.words 0 (name_word f m) y 0 (λ e. omega arith);
    homes = λ m. refl;
  }

  but_name : (n y : ℕ) (H : List Home) → ((m : ℕ) → m ≢ n → get_or H m empty ≡ get_or w.homes m empty) → ButName f s n
      (Then (name_word f n) y H)
  but_name n y H homes = record {
    number = get_or-set_other w.words (name_word f n) 0 y 0 (λ e. omega arith);
    right = get_or-set_other w.words (name_word f n) 1 y 0 (λ e. omega arith);
    pins = λ g b. get_or-set_other w.words (name_word f n) (g + 2) y 0 (λ e. omega arith);
    names = λ m ne. get_or-set_other w.words (name_word f n) (name_word f m) y 0 (λ e. ne (omega arith));
    homes = homes;
  }

  is_name : (n y : ℕ) → n < f.names → get_or (set w.words (name_word f n) y) (name_word f n) 0 ≡ y
  is_name n y inside = let wide = fits.wide in get_or-set_same w.words (name_word f n) y 0 (omega arith)

  is_home : (n : ℕ) (h : Home) → n < f.names → get_or (set w.homes n h) n empty ≡ h
  is_home n h inside = let deep = fits.deep in get_or-set_same w.homes n h empty (omega arith)

  -- the state where the slot of n has h
  abbrev Slot_is : (n y : ℕ) → Home → State
  Slot_is n y h = Then (name_word f n) y (set w.homes n h)

  but_slot : (n y : ℕ) (h : Home) → ButName f s n (Slot_is n y h)
  but_slot n y h = but_name n y (set w.homes n h) (λ m ne. get_or-set_other w.homes n m h empty ne)

  cell_home : (n : ℕ) (h : Home) → n < f.names → HasCell f n h → HasCell f n (get_or (set w.homes n h) n empty)
  cell_home n h inside = subst (HasCell f n) (sym (is_home n h inside))

  pin_open : (g hold work : ℕ) → Idle v → g < f.stages → v.last ≡ g + 2 → ((h : ℕ) → on h hold work ≡ live h v + bit
      (g + 1) (h + 1)) → word_of w (g + 2) < 9223372036854775808 → let x : ℕ = word_of w (g + 2) in
      Ruled f k (Now (g + 2) (x + 1) w.homes
      (counted (g + 2) x (record v { hold = hold; work = work; own = record v.own { opened = g ∷ v.own.opened } })))
  pin_open g hold work idle below saw slots open_now = let x : ℕ = word_of w (g + 2) in
      pins.pins_open f k s id (g + 2) v r at active (Then (g + 2) (x + 1) w.homes) g x hold work idle below saw slots
      open_now (but_pins g (x + 1) below)
      (is_pins g (x + 1) below)

  pin_any : (slot : Slot) (g : ℕ) → MayPin f slot g v → word_of w (g + 2) < 9223372036854775808 → let x : ℕ = word_of w
      (g + 2) in
      Ruled f k (Now (g + 2) (x + 1) w.homes (counted (g + 2) x (row.pinned slot g v)))
  pin_any Hold g may l = let none = may.3 in let saw = may.4 in
      pin_open g (g + 1) v.work may.1 may.2 (omega arith) (λ h. let z = bit_not v.hold (h + 1) (λ e. omega arith) in
      omega arith) l
  pin_any Work g may l = let none = may.3 in let saw = may.4 in
      pin_open g v.hold (g + 1) may.1 may.2 (omega arith) (λ h. let z = bit_not v.work (h + 1) (λ e. omega arith) in
      omega arith) l

  pin_at : (slot : Slot) (g : ℕ) → MayPin f slot g v → Ruled f k (read f (done f w id (move.pin slot g)))
  pin_at slot g may = let x : ℕ = word_of w (g + 2) in let c : ℕ = 9223372036854775808 in
      let P : Bool → Type 0 = λ b. Ruled f k (Now (g + 2) (x + 1) w.homes (counted (g + 2) x (row.pin_view b slot g v)))
      in
      dite (dec_le c x)
      (λ l. picked P (ltb x c) false (le-ltb x c l) (pins.pins_shut f k s id (g + 2) v r at active
      (Then (g + 2) (x + 1) w.homes) g x may.1 may.2 may.5 l
      (but_pins g (x + 1) may.2) (is_pins g (x + 1) may.2)))
      (λ l. picked P (ltb x c) true (lt-ltb x c (omega arith)) (pin_any slot g may (omega arith)))

  unpin_both : (g hold work : ℕ) → Free v → ((h : ℕ) → live h v ≡ on h hold work + bit (g + 1) (h + 1)) → 0 < live g v
      → let x : ℕ = word_of w (g + 2) in
      Ruled f k (Now (g + 2) (x - 1) w.homes (counted (g + 2) x (record v { hold = hold; work = work })))
  unpin_both g hold work free slots some_live = let x : ℕ = word_of w (g + 2) in
      let below = ((r.each id v at).pins g some_live).0 in
      let word = (r.words.pins g below).word in
      let mine = total_at (Rattle.mf_machine.specs.Sums.pins g) w.views id v at in
      pins.unpins f k s id (g + 2) v r at active (Then (g + 2) (x - 1) w.homes) g x hold work free below slots
      (but_pins g (x - 1) below)
      (let e = is_pins g (x - 1) below in omega arith)

  unpin_at : (slot : Slot) (g : ℕ) → Free v → slot_of slot v ≡ g + 1 → Ruled f k
      (read f (done f w id (move.unpin slot g)))
  unpin_at Hold g free e = let one = bit_is v.hold (g + 1) e in unpin_both g 0 v.work free
      (λ h. let z = bit_not 0 (h + 1) (λ q. omega arith) in let c = ap (λ (y : ℕ). bit y (h + 1)) e in
      omega arith) (omega arith)
  unpin_at Work g free e = let one = bit_is v.work (g + 1) e in unpin_both g v.hold 0 free
      (λ h. let z = bit_not 0 (h + 1) (λ q. omega arith) in let c = ap (λ (y : ℕ). bit y (h + 1)) e in
      omega arith) (omega arith)

  close_at : (g : ℕ) → MayClose f g v → Ruled f k (read f (done f w id (move.close g)))
  close_at g may = let i : ℕ = g + 2 in let x : ℕ = word_of w i in let c : ℕ = 9223372036854775808 in
      let P : Bool → Bool → Type 0 = λ b d. Ruled f k (Now i (cond b c x) w.homes
      (counted i x (row.close_view (cond b closing.Done (cond d (closing.Pins x) closing.Already)) g v))) in
      dite (ℕ_discrete x 0)
      (λ e. picked (λ b. P b (ltb x c)) (eqb x 0) true (eq-eqb x 0 e)
      (pins.closes_done f k s id i v r at active (Then i c w.homes) g x may.1 may.2 may.3 e (but_pins g c may.2)
      (is_pins g c may.2)))
      (λ ne. picked (λ b. P b (ltb x c)) (eqb x 0) false (ne_eqb x 0 ne) (dite (dec_le c x)
      (λ l. picked (P false) (ltb x c) false (le-ltb x c l)
      (told_only i (counted i x (row.closed_already g v)) (pins.closes_already f k s id i v r at active may.1 g may.2
      l)))
      (λ l. picked (P false) (ltb x c) true (lt-ltb x c (omega arith))
      (told_only i (counted i x (row.closed_pins g x v)) (pins.closes_pins f k s id i v r at active may.1 g may.2
      (omega arith))))))

  begin_at : Idle v → v.build.right ≡ 0 → Ruled f k (read f (done f w id move.begin))
  begin_at idle not = let x : ℕ = word_of w 1 in
      let P : Bool → Type 0 = λ b. Ruled f k (Now 1 (cond b 1 x) w.homes (counted 1 x (row.begin_view b v))) in
      dite (ℕ_discrete x 0)
      (λ e. picked P (eqb x 0) true (eq-eqb x 0 e) (numbers.begins f k s id 1 v r at active idle
      (Then 1 1 w.homes) x not e (is_right 1) (but_right 1)))
      (λ ne. picked P (eqb x 0) false (ne_eqb x 0 ne)
      (told_only 1 (counted 1 x (row.refused v)) (numbers.refuses f k s id 1 v r at active idle not (omega arith))))

  end_at : Idle v → v.build.right ≡ 1 → Ruled f k (read f (done f w id move.end))
  end_at idle has = numbers.ends_right f k s id 1 v r at active idle (Then 1 0 w.homes) (word_of w 1) has (is_right 0)
      (but_right 0)

  publish_at : (next : ℕ) → MayPublish f next v → Ruled f k (read f (done f w id (move.publish next)))
  publish_at next may = let wide = fits.wide in numbers.publishes f k s id 0 v r at active may.1 may.4.0 next
      (word_of w 0) (Then 0 next w.homes)
      may.2 may.3 may.4.1 may.4.2 (get_or-set_same w.words 0 next 0 (omega arith)) (but_number next)

  see_at : (n : ℕ) → MaySee f n v → Ruled f k (read f (done f w id (move.see n)))
  see_at n may = let i : ℕ = name_word f n in let x : ℕ = word_of w i in let idle = may.1 in let inside = may.2 in
      let left = turns.not_left f k s id n v r at inside may.3 in
      let P : Bool → Bool → Type 0 = λ b d. Ruled f k (Now i x w.homes
      (counted i x (row.see_view (cond b told.Unborn (cond d (told.Lost (x - 4)) told.Here)) n v))) in
      dite (ℕ_discrete x 0)
      (λ e. picked (λ b. P b (leb 4 x)) (eqb x 0) true (eq-eqb x 0 e)
      (told_only i (counted i x (row.told_unborn n v)) (sees.sees_unborn f k s id i n v rest r at active idle inside
      e)))
      (λ ne. picked (λ b. P b (leb 4 x)) (eqb x 0) false (ne_eqb x 0 ne) (dite (dec_le 4 x)
      (λ l. picked (P false) (leb 4 x) true (le-leb 4 x l)
      (told_only i (counted i x (row.told_lost n (x - 4) v)) (sees.sees_lost f k s id i n v rest r at active idle inside
      (x - 4) (omega arith))))
      (λ l. picked (P false) (leb 4 x) false (lt-leb 4 x (omega arith))
      (told_only i (counted i x (row.told_here n v)) (sees.sees_here f k s id i n v rest r at active idle inside
      (dite (ℕ_discrete x 1) (λ e. inl e) (λ d. inr (omega arith))))))))

  take_at : (n : ℕ) → MayTake f n v → Ruled f k (read f (done f w id (move.take n)))
  take_at n may = let i : ℕ = name_word f n in let x : ℕ = word_of w i in let free = may.1 in let inside = may.2 in
      let idle : Idle v = omega arith in
      let P : Bool → Bool → Type 0 = λ b d. Ruled f k
      (Now i (cond b 2 x) (homes_after (cond b (comes_out n) stays) w id)
      (counted i x (row.take_view (cond b row.chunk (cond d (row.gone (x - 4)) row.again)) n v))) in
      dite (ℕ_discrete x 1)
      (λ e. picked (λ b. P b (leb 4 x)) (eqb x 1) true (eq-eqb x 1 e)
      (turns.takes f k s id v rest r at active (Slot_is n 2 away) n i x free inside may.3 e (but_slot n 2 away)
      (is_name n 2 inside) (is_home n away inside)))
      (λ ne. picked (λ b. P b (leb 4 x)) (eqb x 1) false (ne_eqb x 1 ne) (dite (dec_le 4 x)
      (λ l. picked (P false) (leb 4 x) true (le-leb 4 x l)
      (told_only i (counted i x (row.told_lost n (x - 4) v)) (sees.sees_lost f k s id i n v rest r at active idle inside
      (x - 4) (omega arith))))
      (λ l. picked (P false) (leb 4 x) false (lt-leb 4 x (omega arith))
      (told_only i (counted i x v) (sees.sees_nothing f k s id i n v rest r at active idle inside)))))

  lose_at : (n l : ℕ) → MayLose f n l v → Ruled f k (read f (done f w id (move.lose n l)))
  lose_at n l may = let i : ℕ = name_word f n in let x : ℕ = word_of w i in let free = may.1 in let inside = may.2 in
      let idle : Idle v = omega arith in
      let P : Bool → Bool → Type 0 = λ b d. Ruled f k
      (Now i (cond b 2 x) (homes_after (cond b (comes_out n) stays) w id)
      (counted i x (row.lose_view (cond b lose.Done (cond d lose.Again lose.Nothing)) n l v))) in
      dite (ℕ_discrete x 1)
      (λ e. picked (λ b. P b (eqb x 2)) (eqb x 1) true (eq-eqb x 1 e)
      (turns.loses_turn f k s id v r at active (Slot_is n 2 away) n l i x free inside e (but_slot n 2 away)
      (is_name n 2 inside) (is_home n away inside)))
      (λ ne. picked (λ b. P b (eqb x 2)) (eqb x 1) false (ne_eqb x 1 ne) (dite (ℕ_discrete x 2)
      (λ e. picked (P false) (eqb x 2) true (eq-eqb x 2 e)
      (told_only i (counted i x v) (sees.sees_nothing f k s id i n v rest r at active idle inside)))
      (λ d. picked (P false) (eqb x 2) false (ne_eqb x 2 d)
      (told_only i (counted i x (row.not_lost n v)) (sees.not_lost f k s id i n v rest r at active idle inside ne d)))))

  drop_at : (n : ℕ) → MayDrop f n v → Ruled f k (read f (done f w id (move.drop n)))
  drop_at n may = let i : ℕ = name_word f n in let x : ℕ = word_of w i in let free = may.1 in let inside = may.2 in
      let shown = may.3 in
      let P : Bool → Bool → Type 0 = λ b d. Ruled f k
      (Now i (cond b 2 x) (homes_after (cond b (comes_out n) stays) w id)
      (counted i x (row.drop_view (cond b row.drops (cond d row.tries row.nothing)) n x v))) in
      dite (ℕ_discrete x 1)
      (λ e. picked (λ b. P b (leb 4 x)) (eqb x 1) true (eq-eqb x 1 e)
      (drops.drops_turn f k s id v r at active (Slot_is n 2 away) n i x free inside shown e (but_slot n 2 away)
      (is_name n 2 inside) (is_home n away inside)))
      (λ ne. picked (λ b. P b (leb 4 x)) (eqb x 1) false (ne_eqb x 1 ne) (dite (dec_le 4 x)
      (λ l. picked (P false) (leb 4 x) true (le-leb 4 x l)
      (told_only i (counted i x (row.trying n x v)) (drops.drops_try f k s id i n v r at active inside free shown l)))
      (λ l. picked (P false) (leb 4 x) false (lt-leb 4 x (omega arith))
      (told_only i (counted i x (row.not_dropped n v)) (drops.drops_nothing f k s id i n v r at active inside shown
      (dite (ℕ_discrete x 0) (λ e. inl e) (λ z. inr (dite (ℕ_discrete x 2) (λ e. inl e) (λ y. inr (omega arith))))))))))

  drop_again_at : (n : ℕ) → MayDropAgain n v → Ruled f k (read f (done f w id (move.drop_again n)))
  drop_again_at n may = let i : ℕ = name_word f n in let x : ℕ = word_of w i in let t : ℕ = v.inside.tried in
      let try = (r.each id v at).inside.trying n may.1 in let inside = try.0 in
      let P : Bool → Type 0 = λ b. Ruled f k (Now i (cond b 3 x) w.homes (counted i x (row.drop_again_view b n v))) in
      dite (ℕ_discrete x t)
      (λ e. picked P (eqb x t) true (eq-eqb x t e) (drops.drops_lost f k s id v r at active (Then i 3 w.homes) n i x
      may.1 e
      (but_name n 3 w.homes (λ m d. refl)) (is_name n 3 inside) refl))
      (λ ne. picked P (eqb x t) false (ne_eqb x t ne) (told_only i (counted i x (row.not_dropped n v))
      (drops.drops_nothing f k s id i n v r at active inside try.1 (⊎_elim (λ e. absurd (ne e))
      (λ e. inr (inr e)) try.3))))

  -- the turns of a birth and a retake
  birth_at : (n : ℕ) → MayBirth f n v → Ruled f k (read f (done f w id (move.birth n)))
  birth_at n may = turns.bears f k s id v r at active (Slot_is n 2 away) n (name_word f n) (word_of w (name_word f n))
      may.1 may.2 may.3 may.4 (but_slot n 2 away) (is_name n 2 may.2) (is_home n away may.2)

  retake_at : (n : ℕ) → MayRetake f n v → Ruled f k (read f (done f w id (move.retake n)))
  retake_at n may = turns.retakes f k s id v r at active (Slot_is n 2 away) n (name_word f n)
      (word_of w (name_word f n)) may.1 may.2 may.3 may.4 (but_slot n 2 away) (is_name n 2 may.2) (is_home n away may.2)

  -- the returns
  give_at : (n : ℕ) → v.inside.getting ≡ n + 1 → HasCell f n (w.hands id) → Ruled f k
      (read f (done f w id (move.give n)))
  give_at n has hand = let h : Home = w.hands id in let inside = ((r.each id v at).inside.getting n has).0 in
      turns.gives f k s id v rest r at active (Slot_is n 1 h) n (name_word f n) (word_of w (name_word f n)) has
      (but_slot n 1 h) (is_name n 1 inside)
      (cell_home n h inside hand)

  born_at : (n : ℕ) → v.inside.bearing ≡ n + 1 → HasCell f n (w.hands id) → Ruled f k
      (read f (done f w id (move.born n)))
  born_at n has hand = let h : Home = w.hands id in let inside = ((r.each id v at).inside.bearing n has).0 in
      turns.is_born f k s id v r at active (Slot_is n 1 h) n has (but_slot n 1 h) (is_name n 1 inside)
      (cell_home n h inside hand)

  lost_at : (n l : ℕ) → row.MayBeLost f n l v → w.hands id ≡ empty → Ruled f k (read f (done f w id (move.lost n l)))
  lost_at n l may hand = let h : Home = w.hands id in let inside = (r.each id v at).inside.losing n may.1 in
      turns.is_lost f k s id v r at active (Slot_is n (4 + l) h) n l may.1 may.3 (but_slot n (4 + l) h)
      (is_name n (4 + l) inside) (is_home n h inside ∙ hand)

  restored_at : (n : ℕ) → v.inside.retaking ≡ n + 1 → HasCell f n (w.hands id) → Ruled f k
      (read f (done f w id (move.restored n)))
  restored_at n has hand = let h : Home = w.hands id in let inside = ((r.each id v at).inside.retaking n has).0 in
      turns.is_restored f k s id v r at active (Slot_is n 1 h) n has (but_slot n 1 h) (is_name n 1 inside)
      (cell_home n h inside hand)

  dropped_at : (n : ℕ) → v.inside.dropping ≡ n + 1 → w.hands id ≡ empty → Ruled f k
      (read f (done f w id (move.dropped n)))
  dropped_at n has hand = let h : Home = w.hands id in let inside = ((r.each id v at).inside.dropping n has).0 in
      drops.is_dropped f k s id v r at active (Slot_is n 3 h) n has (but_slot n 3 h) (is_name n 3 inside)
      (is_home n h inside ∙ hand)

module _ (f : File) (k : Opening) (rest : Rest f k) where
  abbrev Good : World → Type 0
  Good w = Fits f w × Ruled f k (read f w)

  abbrev Keeps : World → ℕ → Deed → Type 0
  Keeps w id d = MayDo f w id d → Fits f w → Ruled f k (read f w) → Ruled f k (read f (done f w id d))

  keeps : (w : World) (id : ℕ) (d : Deed) → Keeps w id d
  keeps w id move.look may g r = told_only f k rest w g r id may.0 0 (counted 0 (word_of w 0) (row.looked (word_of w 0)
      (actor w id))) (numbers.looks f k (read f w) id 0 (actor w id) r (here w id may.0) may.0 may.1)
  keeps w id (move.pin slot i) may g r = pin_at f k rest w g r id may.0 slot i may
  keeps w id (move.unpin slot i) may g r = unpin_at f k rest w g r id may.0 slot i may.1 may.2
  keeps w id (move.close i) may g r = close_at f k rest w g r id may.0 i may
  keeps w id move.begin may g r = begin_at f k rest w g r id may.0 may.1 may.2
  keeps w id move.end may g r = end_at f k rest w g r id may.0 may.1 may.2
  keeps w id (move.publish next) may g r = publish_at f k rest w g r id may.0 next may
  keeps w id (move.see n) may g r = see_at f k rest w g r id may.0 n may
  keeps w id (move.take n) may g r = take_at f k rest w g r id may.0 n may
  keeps w id (move.give n) may g r = give_at f k rest w g r id may.0.0 n may.0.1 may.1
  keeps w id (move.birth n) may g r = birth_at f k rest w g r id may.0 n may
  keeps w id (move.born n) may g r = born_at f k rest w g r id may.0.0 n may.0.1 may.1
  keeps w id (move.lose n l) may g r = lose_at f k rest w g r id may.0 n l may
  keeps w id (move.lost n l) may g r = lost_at f k rest w g r id may.0.0 n l may.0 may.1
  keeps w id (move.retake n) may g r = retake_at f k rest w g r id may.0 n may
  keeps w id (move.restored n) may g r = restored_at f k rest w g r id may.0.0 n may.0.1 may.1
  keeps w id (move.drop n) may g r = drop_at f k rest w g r id may.0 n may
  keeps w id (move.drop_again n) may g r = drop_again_at f k rest w g r id may.0 n may
  keeps w id (move.dropped n) may g r = dropped_at f k rest w g r id may.0.0 n may.0.1 may.1
  keeps w id (move.exchange h) may g r = r
  keeps w id move.split may g r = seats.splits f k (read f w) id (actor w id) r (here w id (omega arith)) may
  keeps w id (move.join other) may g r = let m = may.1 in
      seats.joins f k (read f w) id (actor w id) r (here w id m.0) other (actor w other) may.0
      (here w other m.1) m.0 m.1 m.2 m.3 m.4 m.5

  pub one : (w : World) (m : Move) → May f w m → Good w → Good (after f w m)
  one w m may g = (fits_on f w m.who m.does g.0, keeps w m.who m.does may g.0 g.1)

  pub all : (w : World) (ms : List Move) → Runs f w ms → Good w → Good (run f w ms)
  all w [] runs g = g
  all w (m ∷ ms) runs g = all (after f w m) ms runs.1 (one w m runs.0 g)

-- every reached table keeps the rule
pub reached : (f : File) (k : Opening) (w : World) → Reached f k w → Fits f w × Ruled f k (read f w)
reached f k w r = subst (λ (x : World). Fits f x × Ruled f k (read f x)) r.5 (all f k r.2 r.0 r.1 r.4
    (r.3.fits, opens f k r.0 r.2 r.3))
