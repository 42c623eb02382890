-- What is left of a gate, from the table's last state.
use Rattle.std.proofs.Common.{◌≡◌, ◌≢◌, ◌↔◌, ℕ, ◌+◌, ◌-◌, ◌<◌, ◌≤◌, Bool, true, false, eqb, leb, cond, List, length}
use Rattle.std.proofs.Common.{get_or, Option, Some, None, sym, ap, ◌∙◌, subst, arith, eq-eqb, ne_eqb}
use Rattle.std.proofs.lemmas.Bool.{leb-true, le-leb, lt-leb}
use mathlib.Core.Logic.{dite}
use mathlib.Core.Option.{some}
use native.Mathlib.Decide.{ℕ_discrete, dec_le}
use lib.ListN.{get_elem?}
use Rattle.atomic_table.specs.Table.{State}
use Rattle.mf_machine.specs.File.{File, Opening, Holds, HasCell}
use Rattle.mf_machine.specs.File as machine
use Rattle.mf_machine.specs.File.Home.{empty, keeps}
use Rattle.mf_machine.specs.Kept.{IsClosed}
use Rattle.mf_machine.specs.Laws as laws
use Rattle.mf_machine.specs.Rest as rests
use Rattle.mf_machine.specs.Worlds.{read}
use Rattle.mf_machine.proofs.Ends as ends
use Rattle.mf_machine.proofs.Lists.{read_at}
use Rattle.mf_machine.proofs.Rules as rules
use Rattle.mf_machine.proofs.Tells.{here_cell}
use Rattle.mf_machine.proofs.Words.{cell_is}
use Rattle.mf_vault.specs.declared.answers.Rest.{Rest}
use Rattle.mf_vault.specs.declared.answers.Rest.TheVariants as rest
use Rattle.mf_vault.specs.Resting as resting
use Rattle.mf_gate.specs.declared.known.About.{About}
use Rattle.mf_gate.specs.declared.known.Known.{Known}
use Rattle.mf_gate.specs.Resting.{IsLast, IsResting, Leaves, rest_from, bytes_in}
use Rattle.mf_gate.specs.Table.{facts_of, file_of, world_of, Rule}
use Rattle.mf_gate.proofs.Maps.{home_keeps, view_at}

-- a name at rest is Unborn, Dropped, Lost or Here, by its word
left_by : (P : Rest → Type 0) (x : ℕ) (y : Option (List ℕ)) → x ≢ 2 → (x ≡ 0 → P rest.Unborn) → (x ≡ 3 → P rest.Dropped)
    → (4 ≤ x → P (rest.Lost (x - 4))) → (x ≡ 1 → P (rest.Here (bytes_in y))) → P (rest_from x y)
left_by P x y settled unborn dropped lost here = dite (ℕ_discrete x 0)
    (λ e. subst (λ b. P (cond b rest.Unborn (cond (eqb x 3) rest.Dropped
    (cond (leb 4 x) (rest.Lost (x - 4)) (rest.Here (bytes_in y)))))) (sym (eq-eqb x 0 e)) (unborn e))
    (λ a. subst (λ b. P (cond b rest.Unborn (cond (eqb x 3) rest.Dropped
    (cond (leb 4 x) (rest.Lost (x - 4)) (rest.Here (bytes_in y)))))) (sym (ne_eqb x 0 a)) (dite (ℕ_discrete x 3)
    (λ e. subst (λ b. P (cond b rest.Dropped (cond (leb 4 x) (rest.Lost (x - 4)) (rest.Here (bytes_in y)))))
    (sym (eq-eqb x 3 e)) (dropped e))
    (λ c. subst (λ b. P (cond b rest.Dropped (cond (leb 4 x) (rest.Lost (x - 4)) (rest.Here (bytes_in y)))))
    (sym (ne_eqb x 3 c)) (dite (dec_le 4 x)
    (λ l. subst (λ b. P (cond b (rest.Lost (x - 4)) (rest.Here (bytes_in y)))) (sym (le-leb 4 x l)) (lost l))
    (λ l. subst (λ b. P (cond b (rest.Lost (x - 4)) (rest.Here (bytes_in y)))) (sym (lt-leb 4 x (omega arith)))
    (here (omega arith)))))))

module _ (k : About) (id : ℕ) (v : Known) (s : State (Option (List ℕ)) Known) (kept : Rule k s)
    (at : get_elem? s.views id ≡ some v) (last : IsLast v.view) (ws : List ℕ) (xs : List (Option (List ℕ)))
    (words : s.words ≡ ws) (homes : (n : ℕ) (y : Option (List ℕ)) → get_elem? s.homes n ≡ some (some y)
    → get_elem? xs n ≡ some y) where
  abbrev f : File
  f = file_of k

  abbrev o : Opening
  o = (facts_of k).opening

  abbrev st : machine.State
  st = read f (world_of s)

  is_last : laws.IsLast st id v.view
  is_last = (view_at s.views id v at, last.share, last.hold, last.work, last.right, last.free)

  word_at : (i : ℕ) → get_or ws i 0 ≡ get_or s.words i 0
  word_at i = ap (λ (l : List ℕ). get_or l i 0) (sym words)

  settled : (n : ℕ) → n < f.names → st.name n ≢ 2
  settled = ends.none_taken f o st kept.holding.ruled id v.view is_last

  cell_there : (n : ℕ) → n < f.names → st.name n ≡ 1 → st.home n ≡ keeps (f.cell n)
  cell_there n l e = cell_is f n (st.home n) (here_cell f o st kept.holding.ruled n l e)

  slot_there : (n : ℕ) → n < f.names → st.name n ≡ 1 → get_or xs n None ≡ Some (f.cell n)
  slot_there n l e = read_at xs n (Some (f.cell n)) None (homes n (Some (f.cell n))
      (home_keeps s.homes n (f.cell n) (cell_there n l e)))

  pub number_low : get_or ws 0 0 ≤ f.stages + 1
  number_low = let z = word_at 0 in let t = kept.holding.ruled.words.number.top in omega arith

  pub resting_at : (n : ℕ) → n < f.names → IsResting (get_or ws (f.stages + 2 + n) 0) (get_or xs n None)
  resting_at n l = subst (λ x. IsResting x (get_or xs n None)) (sym (word_at (f.stages + 2 + n))) record {
    settled = settled n l;
    here = λ e. (f.cell n, slot_there n l e);
    low = dite (dec_le 4 (st.name n)) (λ q. let z = kept.lines n (st.name n - 4) l (omega arith) in omega arith)
        (λ q. omega arith);
  }

  module _ (closed : List Bool) (names : List Rest) (number : ℕ) (long : length closed ≡ f.stages)
      (many : length names ≡ f.names) (is : number ≡ get_or ws 0 0)
      (shut : (g : ℕ) → g < f.stages → (get_or closed g false ≡ true) ↔ (9223372036854775808 ≤ get_or ws (g + 2) 0))
      (left : (n : ℕ) → n < f.names → get_or names n rest.Unborn
      ≡ rest_from (get_or ws (f.stages + 2 + n) 0) (get_or xs n None)) where
    number_is : number ≡ st.number
    number_is = is ∙ word_at 0

    closed_are : (g : ℕ) → g < f.stages → (get_or closed g false ≡ true) ↔ IsClosed st g
    closed_are g l = subst (λ y. (get_or closed g false ≡ true) ↔ (9223372036854775808 ≤ y)) (word_at (g + 2))
        (shut g l)

    left_at : (n : ℕ) → n < f.names → get_or names n rest.Unborn ≡ rest_from (st.name n) (get_or xs n None)
    left_at n l = left n l ∙ ap (λ y. rest_from y (get_or xs n None)) (word_at (f.stages + 2 + n))

    name_is : (n : ℕ) → n < f.names → resting.word_of (get_or names n rest.Unborn) ≡ st.name n
    name_is n l = ap resting.word_of (left_at n l) ∙ left_by (λ r. resting.word_of r ≡ st.name n) (st.name n)
        (get_or xs n None) (settled n l) (λ e. sym e) (λ e. sym e) (λ q. omega arith) (λ e. sym e)

    home_is : (n : ℕ) → n < f.names → resting.home_of (get_or names n rest.Unborn) ≡ st.home n
    home_is n l = let bare = (kept.holding.ruled.words.names n l).bare in ap resting.home_of (left_at n l)
        ∙ left_by (λ r. resting.home_of r ≡ st.home n) (st.name n) (get_or xs n None) (settled n l)
        (λ e. sym (bare (λ z. omega arith) (λ z. omega arith))) (λ e. sym (bare (λ z. omega arith) (λ z. omega arith)))
        (λ q. sym (bare (λ z. omega arith) (λ z. omega arith)))
        (λ e. ap (λ y. keeps (bytes_in y)) (slot_there n l e) ∙ sym (cell_there n l e))

    at_rest : rests.Rest f (resting.opening_of number closed names)
    at_rest = let r = ends.rests f o st kept.holding.ruled id v.view is_last kept.holding.rest in record {
      number = let a = r.number in let b = number_is in omega arith;
      closed = λ g l e. let a = r.closed g l (le-leb 9223372036854775808 (st.pins g) ((closed_are g l).0 e)) in
          let b = number_is in omega arith;
      born = λ g l e n i h z. r.born g l (sym number_is ∙ e) n i h (sym (name_is n i) ∙ z);
      settled = λ n i e. r.settled n i (sym (name_is n i) ∙ e);
      dropped = λ n i e g l h. (closed_are g l).1 (leb-true 9223372036854775808 (st.pins g)
          (r.dropped n i (sym (name_is n i) ∙ e) g l h));
      lost = λ n j i e. r.lost n j i (sym (name_is n i) ∙ e);
      here = λ n i e. subst (HasCell f n) (sym (home_is n i)) (r.here n i (sym (name_is n i) ∙ e));
      bare = λ n i ne. home_is n i ∙ r.bare n i (λ e. ne (name_is n i ∙ e));
    }

    pub leaves : Leaves k v.view number closed names
    leaves = record {
      state = st;
      number_is = number_is;
      closed_are = closed_are;
      names_are = λ n l. (name_is n l, home_is n l);
      brings = ends.brings f o st kept.holding.ruled id v.view is_last kept.holding.rest;
      kept = rules.kept f o (laws.alone st v.view) kept.holding.rest
          (ends.alone_ruled f o st kept.holding.ruled id v.view is_last);
      at_rest = record { closed = long; names = many; rest = at_rest };
    }
