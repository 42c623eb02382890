-- The table as it is made keeps the rule.
use Rattle.std.proofs.Common.{◌≡◌, ◌≢◌, ◌⊎◌, ℕ, zero, suc, ◌+◌, ◌*◌, ◌^◌, ◌<◌, ◌≤◌, Bool, true, false, not, eqb, cond}
use Rattle.std.proofs.Common.{List, [], ◌∷◌, get_or, sym, refl, ap, ◌∙◌, subst, ⊎_elim, inl, inr, arith, eq-eqb}
use Rattle.std.proofs.lemmas.Bool.{eqb-true}
use mathlib.Core.Logic.{dite}
use mathlib.Core.Option.{some, some-injective, some-ne-none}
use native.Mathlib.Decide.{ℕ_discrete}
use lib.ListN.{get_elem?}
use Rattle.mf_machine.specs.declared.view.View.{View}
use Rattle.mf_machine.specs.Counts.{bit, truth}
use Rattle.mf_machine.specs.File.{File, Opening, State, Home, HasCell, name_word}
use Rattle.mf_machine.specs.Rest.{Rest}
use Rattle.mf_machine.specs.Ruled.{SitsIn, Ruled}
use Rattle.mf_machine.specs.Sums.{lost_bit, tally}
use Rattle.mf_machine.specs.Worlds.{World, read, Opens, first_view, first_seen}
use Rattle.mf_machine.specs.File.Home.{empty}
use Rattle.mf_machine.proofs.Lists.{bit_is, bit_not, those_from, truth_is, truth_true, truth_le}
use Rattle.mf_machine.proofs.Seats.{zero_has, fresh_sits}

not_true : (b : Bool) → not b ≡ true → b ≡ true → ⊥
not_true true e d = false_true e
  where
    false_true : false ≡ true → ⊥
    false_true e = cc
not_true false e d = false_true d
  where
    false_true : false ≡ true → ⊥
    false_true e = cc

module _ (f : File) (k : Opening) (rest : Rest f k) (p r : ℕ) (ps nm : ℕ → ℕ) (hm : ℕ → Home) (number : p ≡ k.number)
    (right : r ≡ 0) (pins : (g : ℕ) → g < f.stages → ps g ≡ 9223372036854775808 * truth (k.closed g))
    (names : (n : ℕ) → n < f.names → nm n ≡ k.name n) (homes : (n : ℕ) → n < f.names → hm n ≡ k.home n) where
  abbrev Made : State
  Made = record { number = p; right = r; pins = ps; name = nm; home = hm; views = first_view f k ∷ [] }

  first_only : (j : ℕ) (u : View) → get_elem? (first_view f k ∷ []) j ≡ some u → SitsIn f k Made (first_view f k)
      → SitsIn f k Made u
  first_only zero u e h = subst (SitsIn f k Made) (some-injective (first_view f k) u e) h
  first_only (suc j) u e h = absurd (some-ne-none u (sym e))

  pub made : Ruled f k Made
  made = record {
    words = record {
      number = record {
        top = let a = rest.number in omega arith;
        floor = omega arith;
        heard = let a = bit_is k.number p (sym number) in omega arith;
        once = λ m h. absurd (omega arith);
      };
      right = right;
      one = omega arith;
      shares = omega arith;
      pins = λ g l. let z = zero_has g in let w = pins g l in record {
        word = omega arith;
        once = let t = truth_le (k.closed g) in omega arith;
        low = λ h. let a = rest.closed g l (truth_true (k.closed g) (omega arith)) in (omega arith, omega arith);
      };
      names = λ n l. let z = zero_has n in let w = names n l in let b₀ = ap (λ y. bit y 0) w in
          let b₃ = ap (λ y. bit y 3) w in
          let b₄ = ap lost_bit w in let two = bit_not (nm n) 2 (λ e. rest.settled n l (sym w ∙ e)) in record {
            taken = omega arith;
            born = omega arith;
            dropped = omega arith;
            lost = λ _. omega arith;
            line = λ j e. let a = bit_is (k.name n) (4 + j) (sym w ∙ e) in (omega arith, rest.lost n j l (sym w ∙ e));
            left = λ e g b h. let c = truth_is (k.closed g) (rest.dropped n l (sym w ∙ e) g b h) in omega arith;
            here = λ e. subst (HasCell f n) (sym (homes n l)) (rest.here n l (sym w ∙ e));
            out = λ e. absurd (rest.settled n l (sym w ∙ e));
            bare = λ a _. homes n l ∙ rest.bare n l (λ e. a (w ∙ e));
          };
      born = λ g l h n i q e. let w = names n i in
          dite (ℕ_discrete k.number (g + 1)) (λ d. rest.born g l d n i q (sym w ∙ e))
          (λ ne. let a = bit_not k.number (g + 1) ne in absurd (omega arith));
    };
    each = λ j u e. first_only j u e (fresh_sits f k p nm (tally k (first_view f k ∷ [])) (2 ^ 30) [] (first_seen f k)
        (λ z. absurd (omega arith)) (λ g h. absurd (omega arith)) record {
          low = omega arith;
          heard = λ _. let a = bit_is k.number k.number refl in omega arith;
          shut = λ g h. let t = those_from k.closed f.stages g h in let c = truth_is (k.closed g) t.1 in omega arith;
          born = λ n h e. let t = those_from
              (λ m. not (eqb (k.name m) 0)) f.names n h in
              not_true (eqb (k.name n) 0) t.1 (eq-eqb (k.name n) 0 (sym (names n t.0) ∙ e));
          dropped = λ n h. let t = those_from
              (λ m. eqb (k.name m) 3) f.names n h in
              names n t.0 ∙ eqb-true (k.name n) 3 (is_true (eqb (k.name n) 3) t.1);
        });
  }
    where
      is_true : (b : Bool) → b ≡ true → Rattle.std.proofs.Common.IsTrue b
      is_true b e = e

pub opens : (f : File) (k : Opening) (w : World) → Rest f k → Opens f k w → Ruled f k (read f w)
opens f k w rest o = subst (λ (vs : List View). Ruled f k (record (read f w) { views = vs })) (sym o.views)
    (made f k rest (get_or w.words 0 0) (get_or w.words 1 0) (λ g. get_or w.words (g + 2) 0)
    (λ n. get_or w.words (name_word f n) 0)
    (λ n. get_or w.homes n empty) o.number o.right o.pins o.names o.homes)
