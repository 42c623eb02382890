-- What a close is answered, by what its actor has pinned.
use Rattle.std.proofs.Common.{◌≡◌, ℕ, ◌+◌, ◌<◌, ◌≤◌, cond, sym, subst, ⊎_elim, arith, ne_eqb}
use Rattle.std.proofs.lemmas.Bool.{lt-ltb, le-ltb, cases_lt}
use mathlib.Core.Logic.{dite}
use mathlib.Core.Option.{some}
use native.Mathlib.Decide.{ℕ_discrete}
use lib.ListN.{get_elem?}
use Rattle.mf_machine.specs.declared.answer.Closed.TheVariants.{Done, Pins, Already}
use Rattle.mf_machine.specs.declared.view.View.{View}
use Rattle.mf_machine.specs.Actors.{live}
use Rattle.mf_machine.specs.File.{File, Opening, State}
use Rattle.mf_machine.specs.Ruled.{Ruled}
use Rattle.mf_machine.specs.Steps.{close_answer}
use Rattle.mf_machine.specs.Sums.{pins}
use Rattle.mf_machine.specs.Words.{is_open}
use Rattle.mf_machine.proofs.Pins.{few_pins}
use Rattle.mf_machine.proofs.Totals.{total_at}
use Rattle.mf_vault.specs.Answers.{FairClose}

-- the answer to a word x of the pins of g
pub fair_close : (g x : ℕ) (v : View) → (x < 9223372036854775808 → live g v ≤ x)
    → (9223372036854775808 ≤ x → live g v ≤ 0) → FairClose g (close_answer x) v
fair_close g x v few shut = dite (ℕ_discrete x 0)
    (λ e. subst (λ y. FairClose g (close_answer y) v) (sym e) (let l = few (omega arith) in
    let z : live g v ≡ 0 = omega arith in z))
    (λ n. subst (λ b. FairClose g (cond b Done (cond (is_open x) (Pins x) Already)) v) (sym (ne_eqb x 0 n))
    (⊎_elim
    (λ (low : x < 9223372036854775808). subst (λ b. FairClose g (cond b (Pins x) Already) v)
    (sym (lt-ltb x 9223372036854775808 low)) ((let z : 0 < x = omega arith in z), few low))
    (λ (high : 9223372036854775808 ≤ x). subst (λ b. FairClose g (cond b (Pins x) Already) v)
    (sym (le-ltb x 9223372036854775808 high)) (let l = shut high in let z : live g v ≡ 0 = omega arith in z))
    (cases_lt x 9223372036854775808)))

-- an actor's pins are among those of an open generation, and a closed one has none
module _ (f : File) (k : Opening) (s : State) (r : Ruled f k s) (id : ℕ) (v : View) (at : get_elem? s.views id ≡ some v)
    (g : ℕ) (l : g < f.stages) where
  pub own_counted : s.pins g < 9223372036854775808 → live g v ≤ s.pins g
  own_counted low = let p = r.words.pins g l in let word = p.word in let once = p.once in
      let all = total_at (pins g) s.views id v at in omega arith

  pub own_none : 9223372036854775808 ≤ s.pins g → live g v ≤ 0
  own_none high = let p = r.words.pins g l in let word = p.word in let few = few_pins f k s g r in
      let none = (p.low (omega arith)).1 in let mine = total_at (live g) s.views id v at in omega arith
