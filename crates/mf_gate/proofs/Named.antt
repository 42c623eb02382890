-- The steps of the chunk pass keep the table's rule.
use Rattle.std.proofs.Common.{◌≡◌, ◌≢◌, ◌⊎◌, ℕ, zero, suc, ◌+◌, ◌-◌, ◌<◌, ◌≤◌, cond, eqb, List, [], ◌∷◌, Option, Some}
use Rattle.std.proofs.Common.{None, sym, refl}
use Rattle.std.proofs.Common.{ap, ◌∙◌, subst, ⊎_elim, arith, eq-eqb, ne_eqb}
use Rattle.std.proofs.lemmas.Bool.{le-leb}
use mathlib.Core.Logic.{dite}
use mathlib.Core.Option.{some}
use native.Mathlib.Decide.{ℕ_discrete}
use prog.Atomic.{either}
use lib.ListN.{get_elem?}
use Rattle.mf_machine.specs.declared.view.View.{View}
use Rattle.mf_machine.specs.File.{File, IsLoseLine, Opening, State, name_word}
use Rattle.mf_machine.specs.File.Home.{empty, keeps}
use Rattle.mf_machine.specs.Moves as move
use Rattle.mf_machine.specs.Ruled.{Ruled}
use Rattle.mf_machine.specs.Steps as row
use Rattle.mf_machine.specs.Steps.{MaySee, MayTake, MayGive, MayBirth, MayBeBorn, MayRetake, MayBeRestored, MayLose}
use Rattle.mf_machine.specs.Steps.{MayBeLost, MayDrop, MayDropAgain, MayBeDropped}
use Rattle.mf_machine.specs.Worlds.{Row, acts, read, silent, steps, word_of, here_row, comes_out, stays}
use Rattle.mf_machine.proofs.Tells as tells
use Rattle.mf_machine.proofs.Turns.{work_open}
use Rattle.mf_machine.proofs.Words.{cell_here, cell_is}
use Rattle.mf_gate.specs.declared.known.About.{About}
use Rattle.mf_gate.specs.Table.{facts_of, file_of, home_of, bare, Carries, Makes, Met, Mine, Takes}
use Rattle.mf_gate.proofs.Rowed.{either_is, stays_put, comes, turns, goes_home}

-- a name answered Unborn and not put is Unborn, and one answered Lost and not restored is Lost
still_unborn : (f : File) (o : Opening) (s : State) (id n : ℕ) (v : View) → Ruled f o s → get_elem? s.views id ≡ some v
    → MayBirth f n v → s.name n ≡ 0
still_unborn f o s id n v r at may = ⊎_elim (λ e. e) (λ e. let free = may.1 in absurd (omega arith))
    ((r.each id v at).build.unborn may.3.1.0 n may.4)

still_lost : (f : File) (o : Opening) (s : State) (id n : ℕ) (v : View) → Ruled f o s → get_elem? s.views id ≡ some v
    → MayRetake f n v → 4 ≤ s.name n
still_lost f o s id n v r at may = ⊎_elim (λ l. l) (λ t. ⊎_elim (λ e. let p = work_open f o s id n v r at may.3 in
    let left = (r.words.names n may.2).left e p.0 p.1 p.2 in let none = p.3 in absurd (omega arith))
    (λ e. let free = may.1 in absurd (omega arith)) t) ((r.each id v at).build.lost may.3.0 n may.4)

module _ (k : About) (slots id q : ℕ) (me : Mine) (e : me.0.about ≡ k) (same : q ≡ (file_of me.0.about).stages) where
  abbrev f : File
  f = file_of me.0.about

  abbrev o : Opening
  o = (facts_of me.0.about).opening

  abbrev v : View
  v = me.0.view

  at_key : (r : Row) (n : ℕ) (h : ℕ → ℕ) → Takes me.0.about r slots id me (name_word f n) h
      → Takes k r slots id me (q + 2 + n) h
  at_key r n h t = subst (λ z. Takes k r slots id me (z + 2 + n) h) (sym same)
      (subst (λ (j : About). Takes j r slots id me (name_word f n) h) e t)

  pub sees : (n : ℕ) → MaySee f n v → Takes k (row.see_row f n) slots id me (q + 2 + n) (λ x. x)
  sees n may = at_key (row.see_row f n) n (λ x. x)
      (stays_put slots id me (move.see n) (name_word f n) (λ x. x) (λ x. row.see_view (row.see_answer x) n) (λ x. x)
      (λ w a. refl) (λ w a. subst (MaySee f n) (sym a) may) (λ w h at. refl) (λ m l x _ _ old z. old (sym z)))

  pub takes : (n : ℕ) → MayTake f n v → Takes k (row.take_row f n) slots id me (q + 2 + n) (λ x. either (eqb x 1) 2 x)
  takes n may = at_key (row.take_row f n) n (λ x. either (eqb x 1) 2 x)
      (comes slots id me (move.take n) n (λ x. row.take_view (row.take_answer x) n) (λ w a. refl)
      (λ w a. subst (MayTake f n) (sym a) may) may.2)

  pub loses : (n l : ℕ) → MayLose f n l v
      → Takes k (row.lose_row f n l) slots id me (q + 2 + n) (λ x. either (eqb x 1) 2 x)
  loses n l may = at_key (row.lose_row f n l) n (λ x. either (eqb x 1) 2 x)
      (comes slots id me (move.lose n l) n (λ x. row.lose_view (row.lose_answer x) n l) (λ w a. refl)
      (λ w a. subst (MayLose f n l) (sym a) may) may.2)

  pub drops : (n : ℕ) → MayDrop f n v → Takes k (row.drop_row f n) slots id me (q + 2 + n) (λ x. either (eqb x 1) 2 x)
  drops n may = at_key (row.drop_row f n) n (λ x. either (eqb x 1) 2 x)
      (comes slots id me (move.drop n) n (λ x. row.drop_view (row.drop_answer x) n x) (λ w a. refl)
      (λ w a. subst (MayDrop f n) (sym a) may) may.2)

  pub drops_again : (n t : ℕ) → MayDropAgain n v → v.inside.tried ≡ t
      → Takes k (row.drop_again_row f v.inside.tried n) slots id me (q + 2 + n) (λ x. either (eqb x t) 3 x)
  drops_again n t may is = at_key (row.drop_again_row f v.inside.tried n) n (λ x. either (eqb x t) 3 x)
      (stays_put slots id me (move.drop_again n) (name_word f n) (λ x. cond (eqb x v.inside.tried) 3 x)
      (λ x. row.drop_again_view (row.drop_again_answer v.inside.tried x) n) (λ x. either (eqb x t) 3 x)
      (λ w a. ap (λ (u : View). acts (row.drop_again_row f u.inside.tried n) w id) a)
      (λ w a. subst (MayDropAgain n) (sym a) may)
      (λ w h at. either_is (eqb (word_of w (name_word f n)) t) 3 (word_of w (name_word f n))
      ∙ ap (λ y. cond (eqb (word_of w (name_word f n)) y) 3 (word_of w (name_word f n))) (sym is))
      (λ m l x _ _ old z. dite (ℕ_discrete x t)
      (λ q. let c = ap (λ b. either b 3 x) (eq-eqb x t q) in absurd (omega arith))
      (λ q. let c = ap (λ b. either b 3 x) (ne_eqb x t q) in old (omega arith))))

  pub births : (n : ℕ) → MayBirth f n v → Takes k (row.birth_row f n) slots id me (q + 2 + n) (λ x. 2)
  births n may = at_key (row.birth_row f n) n (λ x. 2)
      (turns slots id me (move.birth n) n (row.bearing n) (λ w a. refl) (λ w a. subst (MayBirth f n) (sym a) may) may.2
      (λ w h at. let z = still_unborn f o (read f w) id n v h.holding.ruled at may in
      ((λ q. absurd (omega arith)), λ q. absurd (omega arith))))

  pub retakes : (n : ℕ) → MayRetake f n v → Takes k (row.retake_row f n) slots id me (q + 2 + n) (λ x. 2)
  retakes n may = at_key (row.retake_row f n) n (λ x. 2)
      (turns slots id me (move.retake n) n (row.retaking n) (λ w a. refl) (λ w a. subst (MayRetake f n) (sym a) may)
      may.2 (λ w h at. let z = still_lost f o (read f w) id n v h.holding.ruled at may in
      ((λ q. absurd (omega arith)), λ q. absurd (omega arith))))

  pub gives : (n : ℕ) (c : List ℕ) → MayGive n v → c ≡ f.cell n → me.1 ≡ (n, Some c) ∷ []
      → Takes k (row.give_row f n) slots id me (q + 2 + n) (λ x. 1)
  gives n c may cell carried = at_key (row.give_row f n) n (λ x. 1)
      (goes_home slots id me (move.give n) n 1 row.gave steps (Some c) (λ w a. refl)
      (λ w a h. (
        subst (MayGive n) (sym a) may,
        cell_here f n (w.hands id)
            (h ∙ ap (λ z. home_of (some (Some z))) cell),
      )) carried (λ l z. absurd (omega arith)))

  pub is_born : (n : ℕ) (c : List ℕ) → MayBeBorn n v → c ≡ f.cell n → me.1 ≡ (n, Some c) ∷ []
      → Takes k (row.born_row f n) slots id me (q + 2 + n) (λ x. 1)
  is_born n c may cell carried = at_key (row.born_row f n) n (λ x. 1)
      (goes_home slots id me (move.born n) n 1 (row.born n) silent (Some c)
      (λ w a. refl) (λ w a h. (
        subst (MayBeBorn n) (sym a) may,
        cell_here f n (w.hands id)
            (h ∙ ap (λ z. home_of (some (Some z))) cell),
      )) carried (λ l z. absurd (omega arith)))

  pub is_restored : (n : ℕ) (c : List ℕ) → MayBeRestored n v → c ≡ f.cell n → me.1 ≡ (n, Some c) ∷ []
      → Takes k (row.restored_row f n) slots id me (q + 2 + n) (λ x. 1)
  is_restored n c may cell carried = at_key (row.restored_row f n) n (λ x. 1)
      (goes_home slots id me (move.restored n) n 1 (row.restored n) silent (Some c)
      (λ w a. refl) (λ w a h. (
        subst (MayBeRestored n) (sym a) may,
        cell_here f n (w.hands id)
            (h ∙ ap (λ z. home_of (some (Some z))) cell),
      )) carried (λ l z. absurd (omega arith)))

  pub is_lost : (n l : ℕ) → MayBeLost f n l v → l < 4294967296 → me.1 ≡ (n, None) ∷ []
      → Takes k (row.lost_row f n l) slots id me (q + 2 + n) (λ x. 4 + l)
  is_lost n l may low carried = at_key (row.lost_row f n l) n (λ x. 4 + l)
      (goes_home slots id me (move.lost n l) n (4 + l) (row.lost n l) silent None
      (λ w a. refl) (λ w a h. (subst (MayBeLost f n l) (sym a) may, h)) carried (λ m z. omega arith))

  pub is_dropped : (n : ℕ) → MayBeDropped n v → me.1 ≡ (n, None) ∷ []
      → Takes k (row.dropped_row f n) slots id me (q + 2 + n) (λ x. 3)
  is_dropped n may carried = at_key (row.dropped_row f n) n (λ x. 3)
      (goes_home slots id me (move.dropped n) n 3 (row.dropped n) silent None
      (λ w a. refl) (λ w a h. (subst (MayBeDropped n) (sym a) may, h)) carried (λ l z. absurd (omega arith)))

-- what the value met is
module _ (k : About) (v : View) (n : ℕ) where
  pub was_unborn : (x : ℕ) → Met k v (name_word (file_of k) n) x → MayBirth (file_of k) n v → x ≡ 0
  was_unborn x m may = sym m.word ∙ still_unborn (file_of k) (facts_of k).opening (read (file_of k) m.state) m.id n v
      m.kept.holding.ruled m.at may

  pub was_lost : (x : ℕ) → Met k v (name_word (file_of k) n) x → MayRetake (file_of k) n v → 4 ≤ x
  was_lost x m may = subst (λ y. 4 ≤ y) m.word (still_lost (file_of k) (facts_of k).opening
      (read (file_of k) m.state) m.id n v m.kept.holding.ruled m.at may)

  pub was_taken : (x : ℕ) → Met k v (name_word (file_of k) n) x → MayTake (file_of k) n v
      → (x ≡ 1) ⊎ ((x ≡ 2) ⊎ (4 ≤ x))
  was_taken x m may = subst (λ y. (y ≡ 1) ⊎ ((y ≡ 2) ⊎ (4 ≤ y))) m.word (tells.taken_is (file_of k)
      (facts_of k).opening (read (file_of k) m.state) m.kept.holding.ruled m.id n v m.at may.2 may.3)

  pub line_low : (x : ℕ) → Met k v (name_word (file_of k) n) x → n < (file_of k).names → 4 ≤ x → x - 4 < 4294967296
  line_low x m inside = subst (λ y. 4 ≤ y → y - 4 < 4294967296) m.word (λ l. m.kept.lines n
      (word_of m.state (name_word (file_of k) n) - 4) inside (omega arith))

  pub lose_line : (x : ℕ) → Met k v (name_word (file_of k) n) x → n < (file_of k).names → 4 ≤ x
      → IsLoseLine (file_of k) n (x - 4)
  lose_line x m inside = subst (λ y. 4 ≤ y → IsLoseLine (file_of k) n (y - 4)) m.word
      (λ l. tells.lost_line (file_of k) (facts_of k).opening (read (file_of k) m.state) m.kept.holding.ruled n
      (word_of m.state (name_word (file_of k) n) - 4) inside (omega arith))

-- a seat that carries no slot, and one that carries the slot of n
pub bare_none : (m : ℕ) → m ≡ 0 → bare m ≡ []
bare_none m e = ap bare e

pub bare_at : (n m : ℕ) → m ≡ n + 1 → bare m ≡ (n, None) ∷ []
bare_at n zero e = absurd (omega arith)
bare_at n (suc m) e = let z : m ≡ n = omega arith in ap (λ (i : ℕ). (i, None) ∷ []) z

-- what the first of the carried slots has
first_in : List (ℕ × Option (List ℕ)) → Option (List ℕ)
first_in [] = None
first_in (x ∷ xs) = x.1

pub same_first : (n : ℕ) (a b : Option (List ℕ)) (c d : List (ℕ × Option (List ℕ))) → (n, a) ∷ c ≡ (n, b) ∷ d → a ≡ b
unfolding first_in
same_first n a b c d e = ap first_in e

pub some_same : (a b : List ℕ) → Some a ≡ Some b → a ≡ b
some_same a b e = cc

is_kept : (y : Option (List ℕ)) (b : List ℕ) → home_of (some y) ≡ keeps b → y ≡ Some b
is_kept None b e = absurd (let z : empty ≡ keeps b = e in cc)
is_kept (Some c) b e = ap Some (same c b e)
  where
    same : (c b : List ℕ) → keeps c ≡ keeps b → c ≡ b
    same c b e = cc

-- what comes out of the slot of a name that is Here is its cell
pub came_out : (n x : ℕ) (view : ℕ → View → View) (me me' : Mine)
    → Makes (here_row (file_of me.0.about) n view) x me me' → x ≡ 1 → n < (file_of me.0.about).names
    → me'.1 ≡ (n, Some ((file_of me.0.about).cell n)) ∷ me.1
came_out n x view me me' m hit inside = let f = file_of me.0.about in
    let s = subst (λ b. Carries m.met.state (cond b (comes_out n) stays) me.1 me'.1) (eq-eqb x 1 hit) m.slots in
    let home = cell_is f n ((read f m.met.state).home n) (tells.here_cell f (facts_of me.0.about).opening
    (read f m.met.state) m.met.kept.holding.ruled n inside (m.met.word ∙ hit)) in
    s.1 ∙ ap (λ (y : Option (List ℕ)). (n, y) ∷ me.1) (is_kept s.0 (f.cell n) (sym s.2 ∙ home))

-- and what stays where it isn't
pub stayed : (n x : ℕ) (view : ℕ → View → View) (me me' : Mine)
    → Makes (here_row (file_of me.0.about) n view) x me me' → x ≢ 1 → me'.1 ≡ me.1
stayed n x view me me' m miss = subst (λ b. Carries m.met.state (cond b (comes_out n) stays) me.1 me'.1)
    (ne_eqb x 1 miss) m.slots

-- a lost name is tried again
pub tries_is : (x : ℕ) → x ≢ 1 → 4 ≤ x → row.drop_answer x ≡ row.tries
tries_is x ne l = λ j. cond (ne_eqb x 1 ne j) row.drops (cond (le-leb 4 x l j) row.tries row.nothing)
