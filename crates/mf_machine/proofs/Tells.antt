-- What the value that a step meets tells its caller, under the rule; and a file at rest still rests when lose lines are
-- added.
use Rattle.std.proofs.Common.{◌≡◌, ◌≢◌, ◌⊎◌, ℕ, ◌+◌, ◌*◌, ◌<◌, ◌≤◌, List, [], ◌∷◌, refl, inl, inr, arith, ◌-◌, ◌++◌}
use Rattle.std.proofs.Common.{⊎_elim}
use mathlib.Core.Logic.{dite}
use mathlib.Core.Option.{some}
use native.Mathlib.Decide.{ℕ_discrete, dec_le}
use lib.ListN.{get_elem?}
use Rattle.mf_machine.specs.declared.view.View.{View}
use Rattle.mf_machine.specs.Actors.{PinHolds, NextHolds, Active, Free}
use Rattle.mf_machine.specs.Answers.{number}
use Rattle.mf_machine.specs.Counts.{times, total}
use Rattle.mf_machine.specs.File.{File, Opening, State, IsLoseLine, HasCell, Line, listed, Unharmed}
use Rattle.mf_machine.specs.Ruled.{Ruled}
use Rattle.mf_machine.specs.Sums.{share_of, stray, pins}
use Rattle.mf_machine.proofs.Totals.{total_le}
use Rattle.mf_machine.proofs.Pins.{open_word, spent_pins, live_le}
use Rattle.mf_machine.proofs.Turns.{not_left, work_open}
use Rattle.mf_machine.specs.Laws.{AnswersFit, RestGoesOn}
use Rattle.mf_machine.specs.Worlds.{actor, read}
use Rattle.mf_machine.proofs.Deeds.{here}
use Rattle.mf_machine.proofs.Ends.{law}
use Rattle.mf_machine.proofs.Laws.{reached}

double : View → ℕ
double v = 2 * v.share

double_total : (vs : List View) → total double vs ≡ 2 * total share_of vs
unfolding double
double_total [] = refl
double_total (v ∷ vs) = let r = double_total vs in omega arith

module _ (f : File) (k : Opening) (s : State) (r : Ruled f k s) where
  -- look: the number is at least what was seen, at most q + 1, and above that of a generation seen closed
  pub looked_range : (id : ℕ) (v : View) → get_elem? s.views id ≡ some v → (v.seen.number ≤ s.number) ×
      (s.number ≤ f.stages + 1)
  looked_range id v at = ((r.each id v at).seen.low, r.words.number.top)

  pub looked_beyond : (id : ℕ) (v : View) → get_elem? s.views id ≡ some v → (g : ℕ) → g < f.stages
      → 0 < times g v.seen.shut → g + 1 < s.number
  looked_beyond id v at g l h = ((r.words.pins g l).low ((r.each id v at).seen.shut g h)).0

  -- begin: the right's word is 0 or 1
  pub right_low : s.right ≤ 1
  right_low = r.words.one

  -- close: an open generation has at most 2^31 pins
  pub pins_low : (g : ℕ) → g < f.stages → s.pins g < 9223372036854775808 → s.pins g ≤ 2147483648
  unfolding double
  pins_low g l open_now = let word = open_word f k s g r l open_now in let none = word.0 in let is = word.1 in
      let a = total_le (pins g) double s.views (λ j u e. small u (r.each j u e).spent
      (λ h. let b = ((r.each j u e).strays g h).0 in
      let c = (r.each j u e).seen.shut g b in absurd (omega arith))) in let b = double_total s.views in
      let c = r.words.shares in omega arith
    where
      small : (u : View) → (u.share ≡ 0 → u ≡ Rattle.mf_machine.specs.Worlds.spent_view) → (0 < stray g u → ⊥)
          → pins g u ≤ double u
      small u spent none = dite (ℕ_discrete u.share 0) (λ e. let z = spent_pins g u (spent e) in omega arith)
          (λ ne. let l = live_le g u in dite (ℕ_discrete (stray g u) 0) (λ z. omega arith)
          (λ nz. absurd (none (omega arith))))

  -- a pinned generation's names are born, and they and those of the next one aren't Dropped
  pub pinned_born : (id n : ℕ) (v : View) → get_elem? s.views id ≡ some v → n < f.names → PinHolds f v.hold v.work n
      → s.name n ≢ 0
  pinned_born id n v at inside pin = let t = (r.each id v at).pins pin.0 pin.2 in
      r.words.born pin.0 pin.1 ((r.each id v at).own (number (pin.0 + 1)) t.1) n inside pin.3

  pub seen_there : (id n : ℕ) (v : View) → get_elem? s.views id ≡ some v → n < f.names
      → PinHolds f v.hold v.work n ⊎ NextHolds f v.build v.last n → s.name n ≢ 3
  seen_there id n v at inside may = not_left f k s id n v r at inside may

  -- take: the name is Here with its cell, Taken, or Lost
  pub taken_is : (id n : ℕ) (v : View) → get_elem? s.views id ≡ some v → n < f.names → PinHolds f v.hold v.work n
      → (s.name n ≡ 1) ⊎ ((s.name n ≡ 2) ⊎ (4 ≤ s.name n))
  taken_is id n v at inside pin = let a = pinned_born id n v at inside pin in
      let b = seen_there id n v at inside (inl pin) in
      dite (ℕ_discrete (s.name n) 1) (λ e. inl e) (λ p. inr (dite (ℕ_discrete (s.name n) 2) (λ e. inl e)
      (λ q. inr (dite (dec_le 4 (s.name n))
      (λ l. l) (λ l. absurd (dite (ℕ_discrete (s.name n) 0) a (λ z. b (omega arith))))))))

  pub here_cell : (n : ℕ) → n < f.names → s.name n ≡ 1 → HasCell f n (s.home n)
  here_cell n inside e = (r.words.names n inside).here e

  -- Lost(line): the line is a lose line of the name's server
  pub lost_line : (n l : ℕ) → n < f.names → s.name n ≡ 4 + l → IsLoseLine f n l
  lost_line n l inside e = ((r.words.names n inside).line l e).1

module _ (f : File) (k : Opening) (s : State) (r : Ruled f k s) (id : ℕ) (v : View) (at : get_elem? s.views id ≡ some v)
  where
    -- a name answered Lost and not restored is still Lost, since a generation that holds it is open
    still_lost : (n : ℕ) → Free v → n < f.names → Rattle.mf_machine.specs.Actors.WorkHolds f v.build v.last v.work n
        → Rattle.mf_machine.specs.Actors.Among n v.build.lost → 4 ≤ s.name n
    still_lost n free inside work told = ⊎_elim (λ l. l) (λ t. ⊎_elim (λ e. let o = work_open f k s id n v r at work in
        let left = (r.words.names n inside).left e o.0 o.1 o.2 in let none = o.3 in absurd (omega arith))
        (λ e. absurd (omega arith)) t)
        ((r.each id v at).build.lost work.0 n told)

pub answers_fit : AnswersFit
answers_fit f k w reach id = let g = reached f k w reach in let s : State = read f w in let r = g.1 in
    let v : View = actor w id in record {
      see = λ n may. not_left f k s id n v r (here w id may.0) may.2 may.3;
      take = λ n may. ⊎_elim (λ e. inl e)
          (λ t. inr (⊎_elim (λ e. inl e) (λ l. let e : s.name n ≡ 4 + (s.name n - 4) = omega arith in
          inr (s.name n - 4, e, lost_line f k s r n (s.name n - 4) may.2 e)) t)) (taken_is f k s r id n v
          (here w id may.0) may.2 may.3);
      birth = λ n may. ⊎_elim (λ e. e) (λ e. let free = may.1 in
          absurd (omega arith)) ((r.each id v (here w id may.0)).build.unborn may.3.1.0 n may.4);
      retake = λ n may. still_lost f k s r id v (here w id may.0) n may.1 may.2 may.3 may.4;
      returns = λ n active inside. (law f k w reach).0.cells.marked id v (here w id active) n inside;
    }

-- a lose line stays one where others come
listed_more : (l s : ℕ) (xs ys : List Line) → listed l s xs ≤ listed l s (xs ++ ys)
listed_more l s [] ys = omega arith
listed_more l s (x ∷ xs) ys = let r = listed_more l s xs ys in omega arith

pub rest_goes_on : RestGoesOn
unfolding HasCell Unharmed
rest_goes_on f k more r = record {
  number = r.number;
  closed = r.closed;
  born = r.born;
  settled = r.settled;
  dropped = r.dropped;
  lost = λ n l b e. let a = r.lost n l b e in let c = listed_more l (f.server n) f.losses more in omega arith;
  here = r.here;
  bare = r.bare;
}
