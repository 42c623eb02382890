-- A run in which every kind of step occurs.
use Rattle.std.proofs.Common.{◌≡◌, ℕ, zero, suc, ◌+◌, ◌*◌, ◌<◌, eqb, true, false, cond, List, []}
use Rattle.std.proofs.Common.{◌∷◌, ◌++◌, get_or, take, drop, subst, refl, inl, inr, arith}
use Rattle.mf_machine.specs.declared.answer.Slot.TheVariants.{Hold, Work}
use Rattle.mf_machine.specs.declared.view.View.{View}
use Rattle.mf_machine.specs.Actors.{NextHolds}
use Rattle.mf_machine.specs.Counts.{truth}
use Rattle.mf_machine.specs.Exhibits.{Occurs, Exhibits, SomeRun}
use Rattle.mf_machine.specs.File.{File, Opening, Holds, name_word}
use Rattle.mf_machine.specs.File.Home.{away, empty, keeps}
use Rattle.mf_machine.specs.Moves as move
use Rattle.mf_machine.specs.Moves.{by, Deed, Move, Runs, run}
use Rattle.mf_machine.specs.Rest.{Rest}
use Rattle.mf_machine.specs.Worlds.{World, actor, Opens, first_view}
use Rattle.mf_machine.proofs.Guards.{runs_if, false_true}

-- two generations and four names: name 0 is held by both, names 1 and 3 by generation 0, name 2 by generation 1. Line 7
-- takes the servers of names 0, 1 and 3
abbrev pub file : File
file = record {
  stages = 2;
  names = 4;
  holds = λ g n. cond (eqb n 0) true (cond (eqb n 3) (eqb g 0) (eqb (g + 1) n));
  server = λ n. n;
  cell = λ n. n ∷ [];
  losses = (record { line = 7; server = 0 }) ∷ (record { line = 7; server = 1 }) ∷ (record { line = 7; server = 3 }) ∷
      [];
}

abbrev pub start : Opening
start = record { number = 0; closed = λ _. false; name = λ _. 0; home = λ _. empty }

pub rest : Rest file start
rest = record {
  number = omega arith;
  closed = λ g l e. absurd (false_true e);
  born = λ g l e n i h. absurd (omega arith);
  settled = λ n l e. omega arith;
  dropped = λ n l e. absurd (omega arith);
  lost = λ n i l e. absurd (omega arith);
  here = λ n l e. absurd (omega arith);
  bare = λ n l e. refl;
}

abbrev first : World
first = record {
  words = 0 ∷ 0 ∷ 0 ∷ 0 ∷ 0 ∷ 0 ∷ 0 ∷ 0 ∷ [];
  homes = empty ∷ empty ∷ empty ∷ empty ∷ [];
  views = first_view file start ∷ [];
  hands = λ _. away;
}

opened : Opens file start first
opened = record {
  fits = record { wide = refl; deep = refl };
  number = refl;
  right = refl;
  pins = pins_zero;
  names = names_zero;
  homes = homes_empty;
  views = refl;
}
  where
    pins_zero : (g : ℕ) → g < 2 → get_or first.words (g + 2) 0 ≡ 9223372036854775808 * truth false
    pins_zero zero l = refl
    pins_zero (suc zero) l = refl
    pins_zero (suc (suc g)) l = absurd (omega arith)

    names_zero : (n : ℕ) → n < 4 → get_or first.words (name_word file n) 0 ≡ 0
    names_zero zero l = refl
    names_zero (suc zero) l = refl
    names_zero (suc (suc zero)) l = refl
    names_zero (suc (suc (suc zero))) l = refl
    names_zero (suc (suc (suc (suc n)))) l = absurd (omega arith)

    homes_empty : (n : ℕ) → n < 4 → get_or first.homes n empty ≡ empty
    homes_empty zero l = refl
    homes_empty (suc zero) l = refl
    homes_empty (suc (suc zero)) l = refl
    homes_empty (suc (suc (suc zero))) l = refl
    homes_empty (suc (suc (suc (suc n)))) l = absurd (omega arith)

-- the first actor builds both generations, and reclaims the first one; the second one helps, loses chunks, and removes
-- the file
abbrev moves : List Move
moves = by 0 move.split ∷ by 1 move.begin ∷ by 0 move.begin ∷ by 1 move.end ∷ by 0 move.begin ∷ by 0 move.look ∷ by 0
    (move.see 0) ∷
    by 0 (move.see 1) ∷ by 0 (move.see 3) ∷ by 0 (move.birth 0) ∷ by 1 move.look ∷ by 0 (move.exchange (keeps (0 ∷ [])))
    ∷ by 0 (move.born 0) ∷
    by 0 (move.birth 1) ∷ by 0 (move.exchange (keeps (1 ∷ []))) ∷ by 0 (move.born 1) ∷ by 0 (move.birth 3) ∷
    by 0 (move.exchange (keeps (3 ∷ []))) ∷ by 0 (move.born 3) ∷ by 1 (move.lose 0 7) ∷ by 0 (move.see 0) ∷ by 1
    (move.exchange empty) ∷
    by 1 (move.lost 0 7) ∷ by 0 (move.see 0) ∷ by 0 (move.retake 0) ∷ by 0 (move.exchange (keeps (0 ∷ []))) ∷ by 0
    (move.restored 0) ∷
    by 0 (move.publish 1) ∷ by 0 (move.pin Hold 0) ∷ by 0 (move.pin Work 0) ∷ by 1 move.look ∷ by 1
    (move.pin Work 0) ∷ by 0 (move.take 0) ∷
    by 1 (move.take 0) ∷ by 1 (move.lose 0 7) ∷ by 0 (move.give 0) ∷ by 0 (move.lose 0 7) ∷ by 0
    (move.exchange empty) ∷ by 0 (move.lost 0 7) ∷
    by 0 (move.lose 0 7) ∷ by 0 (move.take 0) ∷ by 0 (move.lose 1 7) ∷ by 0 (move.exchange empty) ∷ by 0
    (move.lost 1 7) ∷ by 0 (move.see 1) ∷
    by 0 (move.retake 1) ∷ by 0 (move.exchange (keeps (1 ∷ []))) ∷ by 0 (move.restored 1) ∷ by 0 (move.see 2) ∷ by 0
    (move.birth 2) ∷
    by 0 (move.exchange (keeps (2 ∷ []))) ∷ by 0 (move.born 2) ∷ by 0 (move.retake 0) ∷ by 0
    (move.exchange (keeps (0 ∷ []))) ∷
    by 0 (move.restored 0) ∷ by 0 (move.publish 2) ∷ by 0 (move.close 0) ∷ by 0 (move.unpin Hold 0) ∷ by 0
    (move.unpin Work 0) ∷
    by 1 (move.unpin Work 0) ∷ by 0 (move.close 0) ∷ by 0 (move.close 0) ∷ by 0 move.look ∷ by 0 move.end ∷ by 1
    move.begin ∷ by 1 move.look ∷
    by 1 (move.publish 3) ∷ by 1 (move.close 1) ∷ by 0 (move.pin Work 1) ∷ by 1 (move.close 0) ∷ by 1 (move.lose 3 7) ∷
    by 1 (move.exchange empty) ∷ by 1 (move.lost 3 7) ∷ by 0 (move.drop 3) ∷ by 1 (move.drop 3) ∷ by 0
    (move.drop_again 3) ∷
    by 1 (move.drop_again 3) ∷ by 0 (move.drop 1) ∷ by 0 (move.exchange empty) ∷ by 0 (move.dropped 1) ∷ by 0
    (move.drop 1) ∷ by 1 move.end ∷
    by 0 (move.join 1) ∷ []

moves_run : Runs file first moves
moves_run = runs_if file first moves refl

-- what is so at the place i of the run occurs in it
occurs : (P : World → ℕ → Deed → Type 0) (i : ℕ) (m : Move) → moves ≡ take i moves ++ m ∷ drop (suc i) moves
    → P (run file first (take i moves)) m.who m.does → Occurs P file first moves
occurs P i m are so = record { before = take i moves; next = m; later = drop (suc i) moves; are = are; so = so }

abbrev final : View
final = actor (run file first moves) 0

-- at that retake the next generation doesn't hold the name
not_next : let w : World = run file first (take 45 moves) in NextHolds file (actor w 0).build (actor w 0).last 1 → ⊥
not_next n = let e = n.1.2 in let same : n.0 ≡ 1 = omega arith in false_true (subst (λ g. Holds file g 1) same n.2)

exhibits : Exhibits file first moves
exhibits = record {
  slots = occurs _ 32 (by 0 (move.take 0)) refl (0, 0, refl, refl);
  pin_true = occurs _ 28 (by 0 (move.pin Hold 0)) refl (0, refl, refl);
  pin_false = occurs _ 68 (by 0 (move.pin Work 1)) refl (1, refl, refl);
  unpinned = (
    occurs _ 57 (by 0 (move.unpin Hold 0)) refl (0, refl),
    occurs _ 58 (by 0 (move.unpin Work 0)) refl
        (0, refl),
  );
  close_done = occurs _ 60 (by 0 (move.close 0)) refl (0, refl, refl);
  close_pins = occurs _ 56 (by 0 (move.close 0)) refl (0, 3, 2, refl, refl, refl, omega arith, omega arith);
  close_already = occurs _ 61 (by 0 (move.close 0)) refl (0, refl, refl);
  begin_false = occurs _ 2 (by 0 move.begin) refl (refl, refl);
  ended = occurs _ 3 (by 1 move.end) refl refl;
  looked = occurs _ 5 (by 0 move.look) refl refl;
  publishes = occurs _ 27 (by 0 (move.publish 1)) refl (0, omega arith, refl);
  removes = occurs _ 66 (by 1 (move.publish 3)) refl refl;
  see_unborn = occurs _ 6 (by 0 (move.see 0)) refl (0, refl, refl);
  see_lost = occurs _ 23 (by 0 (move.see 0)) refl (0, 7, refl, refl);
  between = occurs _ 20 (by 0 (move.see 0)) refl (0, 1, refl, refl, λ e. omega arith, inr (inr (inl refl)));
  take_chunk = occurs _ 32 (by 0 (move.take 0)) refl (0, refl, refl);
  take_lost = occurs _ 40 (by 0 (move.take 0)) refl (0, 7, refl, refl);
  take_again = occurs _ 33 (by 1 (move.take 0)) refl (0, refl, refl);
  gives = occurs _ 35 (by 0 (move.give 0)) refl (0, refl);
  in_birth = occurs _ 10 (by 1 move.look) refl (0, 0, refl, λ e. omega arith, refl);
  births = occurs _ 9 (by 0 (move.birth 0)) refl (0, refl);
  by_work = occurs _ 45 (by 0 (move.retake 1)) refl (1, refl, not_next);
  by_next = occurs _ 24 (by 0 (move.retake 0)) refl (0, refl, refl);
  lose_done = occurs _ 19 (by 1 (move.lose 0 7)) refl (0, 7, refl, refl);
  lose_nothing = occurs _ 39 (by 0 (move.lose 0 7)) refl (0, 7, refl, refl);
  lose_again = occurs _ 34 (by 1 (move.lose 0 7)) refl (0, 7, refl, refl);
  drop_here = occurs _ 77 (by 0 (move.drop 1)) refl (1, refl, refl);
  drop_lost = occurs _ 73 (by 0 (move.drop 3)) refl (3, refl, refl);
  drop_nothing = occurs _ 80 (by 0 (move.drop 1)) refl (1, refl, refl);
  again_true = occurs _ 75 (by 0 (move.drop_again 3)) refl (3, refl, refl);
  again_false = occurs _ 76 (by 1 (move.drop_again 3)) refl (3, refl, refl);
  returns = (
    occurs _ 12 (by 0 (move.born 0)) refl (0, refl),
    occurs _ 26 (by 0 (move.restored 0)) refl
        (0, refl),
    occurs _ 79 (by 0 (move.dropped 1)) refl (1, refl),
    occurs _ 22 (by 1 (move.lost 0 7)) refl
        (0, 7, refl),
  );
  others = (
    occurs _ 11 (by 0 (move.exchange (keeps (0 ∷ [])))) refl (keeps (0 ∷ []), refl),
    occurs _ 0
        (by 0 move.split) refl refl,
    occurs _ 82 (by 0 (move.join 1)) refl (1, refl),
  );
  last = (
    final,
    (refl, refl, refl, refl, refl, refl),
    record {
      gate = (omega arith, omega arith, omega arith, omega arith, omega arith, omega arith, omega arith, omega arith);
      told = (omega arith, omega arith, omega arith);
      changed = (omega arith, omega arith, omega arith, omega arith);
      nothing = (omega arith, omega arith);
    },
    omega arith,
  );
  names = ((0, omega arith, refl), (1, omega arith, refl));
}

pub some_run : SomeRun
some_run = (file, start, first, moves, rest, opened, moves_run, exhibits)
