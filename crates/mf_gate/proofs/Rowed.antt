-- A row that an actor may make keeps the table's rule: one lemma for each thing that a row does with a slot.
use Rattle.std.proofs.Common.{◌≡◌, ◌≢◌, ℕ, ◌+◌, ◌<◌, Bool, true, false, cond, eqb, List, [], ◌∷◌, set, sym, refl}
use Rattle.std.proofs.Common.{ap, ◌∙◌, subst, arith, length, Option, Some, None, eq-eqb, ne_eqb, length-set}
use Rattle.std.proofs.Common.{get_or, get_or-set_same, get_or-set_other}
use mathlib.Core.Logic.{dite}
use mathlib.Core.Option.{none, some}
use native.Mathlib.Decide.{ℕ_discrete}
use prog.Atomic.{either}
use lib.ListN.{get_elem?}
use Rattle.atomic_table.specs.Table.{keeps, takes, gives, stepped}
use Rattle.mf_machine.specs.declared.view.View.{View}
use Rattle.mf_machine.specs.File.{File, Opening, Home, name_word}
use Rattle.mf_machine.specs.File.Home.{away, empty}
use Rattle.mf_machine.specs.Moves.{Deed, MayDo, done, by}
use Rattle.mf_machine.specs.Ruled.{Ruled}
use Rattle.mf_machine.specs.Worlds.{World, Fits, Row, Note, read, actor, word_of, acts, counted, noted, spent_view}
use Rattle.mf_machine.specs.Worlds.{word_row, here_row, turn_row, back_row, comes_out, stays, homes_after, hands_after}
use Rattle.mf_machine.proofs.Laws.{one}
use Rattle.mf_machine.proofs.Lists.{read_at}
use Rattle.mf_machine.proofs.Tells.{here_cell}
use Rattle.mf_machine.proofs.Words.{cell_is}
use Rattle.mf_gate.specs.declared.known.About.{About}
use Rattle.mf_gate.specs.declared.known.Known.{Known}
use Rattle.mf_gate.specs.Table.{facts_of, file_of, home_of, homes_of, views_of, world_of, Mine}
use Rattle.mf_gate.specs.Table.{AreLines, Kept, Carries, Met, Takes}
use Rattle.mf_gate.proofs.Maps.{views_set, view_at, homes_set, homes_long, home_keeps, home_empty}

-- `either` is `cond`
pub either_is : (b : Bool) (x y : ℕ) → either b x y ≡ cond b x y
either_is true x y = refl
either_is false x y = refl

module _ (slots id : ℕ) (me : Mine) where
  abbrev k : About
  k = me.0.about

  abbrev f : File
  f = file_of k

  abbrev o : Opening
  o = (facts_of k).opening

  abbrev v : View
  v = me.0.view

  -- the world keeps the rule
  abbrev Good : World → Type 0
  Good w = Fits f w × Ruled f o (read f w)

  -- the actor may do so
  abbrev MayBe : Deed → Type 0
  MayBe d = (w : World) → actor w id ≡ v → MayDo f w id d

  -- this is what it does
  abbrev IsRow : Deed → Row → Type 0
  IsRow d r = (w : World) → actor w id ≡ v → done f w id d ≡ acts r w id

  -- what is known of the value met
  abbrev Knows : ℕ → (ℕ → Type 0) → Type 0
  Knows i P = (w : World) → Kept k w → get_elem? w.views id ≡ some v → P (word_of w i)

  -- where the word is a name's, h brings no line of more than 32 bits
  abbrev IsLow : ℕ → (ℕ → ℕ) → Type 0
  IsLow i h = (n l x : ℕ) → n < f.names → name_word f n ≡ i → (4 + l ≡ x → l < 4294967296)
      → h x ≡ 4 + l → l < 4294967296

  -- the lines after one written word
  lines_on : (w : World) (i : ℕ) (h : ℕ → ℕ) → length w.words ≡ name_word f f.names → AreLines f w → IsLow i h
      → (n l : ℕ) → n < f.names → get_or (set w.words i (h (word_of w i))) (name_word f n) 0 ≡ 4 + l → l < 4294967296
  lines_on w i h wide lines low n l inside e = dite (ℕ_discrete (name_word f n) i)
      (λ q. low n l (word_of w i) inside q
      (λ z. lines n l inside (ap (λ (y : ℕ). word_of w y) q ∙ sym z))
      (sym (get_or-set_same w.words i (h (word_of w i)) 0 (omega arith))
      ∙ (ap (λ (y : ℕ). get_or (set w.words i (h (word_of w i))) y 0) (sym q) ∙ e)))
      (λ ne. lines n l inside (sym (get_or-set_other w.words i (name_word f n) (h (word_of w i)) 0 ne) ∙ e))

  pub stays_put : (d : Deed) (i : ℕ) (becomes : ℕ → ℕ) (view : ℕ → View → View) (h : ℕ → ℕ)
      → IsRow d (word_row i becomes view) → MayBe d → Knows i (λ x. h x ≡ becomes x) → IsLow i h
      → Takes k (word_row i becomes view) slots id me i h
  stays_put d i becomes view h is may same low s kept deep at small = let w : World = world_of s in
      let holds = kept.holding in
      let x : ℕ = word_of w i in
      let there = view_at s.views id me.0 at in
      let a : actor w id ≡ v = read_at w.views id v spent_view there in
      let t = one f o holds.rest w (by id d) (may w a) (holds.fits, holds.ruled) in
      let u : Known = record me.0 { view = counted i x (view x v) } in
      let y : ℕ = h x in
      let e : y ≡ becomes x = same w kept there in
      let now : done f w id d ≡ record w { words = set s.words i y; views = views_of (set s.views id u) } =
      is w a
      ∙ ((λ j. record w {
        words = set s.words i (sym e j);
        views = set (views_of s.views) id (counted i x (view x (a j)));
      })
      ∙ ap (λ (l : List View). record w { words = set s.words i y; views = l }) (sym (views_set s.views id u))) in (
        u,
        keeps,
        tt,
        record {
          holding = record {
            rest = holds.rest;
            fits = subst (Fits f) now t.0;
            ruled = subst (λ (z : World). Ruled f o (read f z)) now t.1;
          };
          lines = lines_on w i h holds.fits.wide kept.lines low;
        },
        record {
          view = refl;
          met = record { state = w; kept = kept; id = id; at = there; word = refl };
          slots = refl;
        },
      )

  -- a row that takes the slot of a name which is Here
  pub comes : (d : Deed) (n : ℕ) (view : ℕ → View → View) → IsRow d (here_row f n view) → MayBe d → n < f.names
      → Takes k (here_row f n view) slots id me (name_word f n) (λ x. either (eqb x 1) 2 x)
  comes d n view is may inside s kept deep at small = let w : World = world_of s in
      let holds = kept.holding in
      let i : ℕ = name_word f n in
      let x : ℕ = word_of w i in
      let there = view_at s.views id me.0 at in
      let a : actor w id ≡ v = read_at w.views id v spent_view there in
      let t : Good (acts (here_row f n view) w id) =
      subst Good (is w a) (one f o holds.rest w (by id d) (may w a) (holds.fits, holds.ruled)) in
      let u : Known = record me.0 { view = counted i x (view x v) } in
      let viewed : set (views_of s.views) id (counted i x (view x (actor w id))) ≡ views_of (set s.views id u) =
      ap (λ (z : View). set (views_of s.views) id (counted i x (view x z))) a ∙ sym (views_set s.views id u) in
      let P : Bool → Type 0 = λ b. Good record {
        words = set s.words i (cond b 2 x);
        homes = homes_after (cond b (comes_out n) stays) w id;
        views = set (views_of s.views) id (counted i x (view x (actor w id)));
        hands = hands_after (cond b (comes_out n) stays) w id;
      } in
      let low : IsLow i (λ y. either (eqb y 1) 2 y) = λ m l y _ _ old e. dite (ℕ_discrete y 1)
      (λ q. let z = ap (λ b. either b 2 y) (eq-eqb y 1 q) in absurd (omega arith))
      (λ q. let z = ap (λ b. either b 2 y) (ne_eqb y 1 q) in old (omega arith)) in
      let lines : AreLines f (record w { words = set s.words i (either (eqb x 1) 2 x) }) =
      lines_on w i (λ y. either (eqb y 1) 2 y) holds.fits.wide kept.lines low in
      let met : Met k v i x = record { state = w; kept = kept; id = id; at = there; word = refl } in
      dite (ℕ_discrete x 1)
      (λ hit. let p : P true = subst P (eq-eqb x 1 hit) t in
      let home = cell_is f n (get_or (homes_of s.homes) n empty) (here_cell f o (read f w) holds.ruled n inside hit) in
      let found = home_keeps s.homes n (f.cell n) home in (
        u,
        takes n (Some (f.cell n)),
        found,
        record {
          holding = record {
            rest = holds.rest;
            fits = record {
              wide = length-set s.words i (either (eqb x 1) 2 x) ∙ holds.fits.wide;
              deep = homes_long (set s.homes n none) ∙ (length-set s.homes n none ∙ (sym (homes_long s.homes)
                  ∙ holds.fits.deep));
            };
            ruled = subst (λ (z : ℕ × List Home × List View). Ruled f o (read f (record {
              words = set s.words i z.0;
              homes = z.1;
              views = z.2;
              hands = λ _. away;
            })))
                (λ j. (
                  sym (either_is (eqb x 1) 2 x ∙ ap (λ b. cond b 2 x) (eq-eqb x 1 hit)) j,
                  sym (homes_set s.homes n none) j,
                  viewed j,
                )) p.1;
          };
          lines = lines;
        },
        record {
          view = refl;
          met = met;
          slots = subst (λ b. Carries w (cond b (comes_out n) stays) me.1 ((n, Some (f.cell n)) ∷ me.1))
              (sym (eq-eqb x 1 hit)) (Some (f.cell n), refl, home);
        },
      ))
      (λ miss. let p : P false = subst P (ne_eqb x 1 miss) t in (
        u,
        keeps,
        tt,
        record {
          holding = record {
            rest = holds.rest;
            fits = record {
              wide = length-set s.words i (either (eqb x 1) 2 x) ∙ holds.fits.wide;
              deep = holds.fits.deep;
            };
            ruled = subst (λ (z : ℕ × List View). Ruled f o (read f (record {
              words = set s.words i z.0;
              homes = homes_of s.homes;
              views = z.1;
              hands = λ _. away;
            })))
                (λ j. (sym (either_is (eqb x 1) 2 x ∙ ap (λ b. cond b 2 x) (ne_eqb x 1 miss)) j, viewed j)) p.1;
          };
          lines = lines;
        },
        record {
          view = refl;
          met = met;
          slots = subst (λ b. Carries w (cond b (comes_out n) stays) me.1 me.1) (sym (ne_eqb x 1 miss)) refl;
        },
      ))

  -- a row that takes the empty slot of a name
  pub turns : (d : Deed) (n : ℕ) (view : View → View) → IsRow d (turn_row f n view) → MayBe d → n < f.names
      → Knows (name_word f n) (λ x. (x ≢ 1) × (x ≢ 2))
      → Takes k (turn_row f n view) slots id me (name_word f n) (λ _. 2)
  turns d n view is may inside vacant s kept deep at small = let w : World = world_of s in
      let holds = kept.holding in
      let i : ℕ = name_word f n in
      let x : ℕ = word_of w i in
      let there = view_at s.views id me.0 at in
      let a : actor w id ≡ v = read_at w.views id v spent_view there in
      let t : Good (acts (turn_row f n view) w id) =
      subst Good (is w a) (one f o holds.rest w (by id d) (may w a) (holds.fits, holds.ruled)) in
      let u : Known = record me.0 { view = counted i x (view v) } in
      let viewed : set (views_of s.views) id (counted i x (view (actor w id))) ≡ views_of (set s.views id u) =
      ap (λ (z : View). set (views_of s.views) id (counted i x (view z))) a ∙ sym (views_set s.views id u) in
      let none_there = vacant w kept there in
      let home = (holds.ruled.words.names n inside).bare none_there.0 none_there.1 in
      let long : length s.homes ≡ f.names = sym (homes_long s.homes) ∙ holds.fits.deep in (
        u,
        takes n None,
        home_empty s.homes n (omega arith) home,
        record {
          holding = record {
            rest = holds.rest;
            fits = record {
              wide = length-set s.words i 2 ∙ holds.fits.wide;
              deep = homes_long (set s.homes n none) ∙ (length-set s.homes n none ∙ long);
            };
            ruled = subst (λ (z : List Home × List View). Ruled f o (read f (record {
              words = set s.words i 2;
              homes = z.0;
              views = z.1;
              hands = λ _. away;
            })))
                (λ j. (sym (homes_set s.homes n none) j, viewed j)) t.1;
          };
          lines = lines_on w i (λ _. 2) holds.fits.wide kept.lines (λ m l y _ _ _ e. absurd (omega arith));
        },
        record {
          view = refl;
          met = record { state = w; kept = kept; id = id; at = there; word = refl };
          slots = (None, refl, home);
        },
      )

  -- a row that gives the slot back, with what the seat has in it
  pub goes_home : (d : Deed) (n z : ℕ) (view : View → View) (note : Note) (y : Option (List ℕ)) → IsRow d
      (back_row f n z view note) → ((w : World) → actor w id ≡ v → w.hands id ≡ home_of (some y) → MayDo f w id d)
      → me.1 ≡ (n, y) ∷ [] → ((l : ℕ) → z ≡ 4 + l → l < 4294967296)
      → Takes k (back_row f n z view note) slots id me (name_word f n) (λ _. z)
  goes_home d n z view note y is may carried low s kept deep at small =
      let w : World = record (world_of s) { hands = λ _. home_of (some y) } in
      let holds = kept.holding in
      let i : ℕ = name_word f n in
      let x : ℕ = word_of w i in
      let there = view_at s.views id me.0 at in
      let a : actor w id ≡ v = read_at w.views id v spent_view there in
      let t : Good (acts (back_row f n z view note) w id) =
      subst Good (is w a) (one f o holds.rest w (by id d) (may w a refl)
      (record { wide = holds.fits.wide; deep = holds.fits.deep }, holds.ruled)) in
      let u : Known = record me.0 { view = noted note i x (view v) } in
      let viewed : set (views_of s.views) id (noted note i x (view (actor w id))) ≡ views_of (set s.views id u) =
      ap (λ (q : View). set (views_of s.views) id (noted note i x (view q))) a ∙ sym (views_set s.views id u) in
      let long : length s.homes ≡ f.names = sym (homes_long s.homes) ∙ holds.fits.deep in (
        u,
        gives,
        tt,
        subst (λ (c : List (ℕ × Option (List ℕ))). Kept k (world_of (stepped s i z id c u gives))) (sym carried)
            record {
              holding = record {
                rest = holds.rest;
                fits = record {
                  wide = length-set s.words i z ∙ holds.fits.wide;
                  deep = homes_long (set s.homes n (some y)) ∙ (length-set s.homes n (some y) ∙ long);
                };
                ruled = subst (λ (q : List Home × List View). Ruled f o (read f (record {
                  words = set s.words i z;
                  homes = q.0;
                  views = q.1;
                  hands = λ _. away;
                })))
                    (λ j. (sym (homes_set s.homes n (some y)) j, viewed j)) t.1;
              };
              lines = lines_on (world_of s) i (λ _. z) holds.fits.wide kept.lines (λ m l q _ _ _ e. low l e);
            },
        record {
          view = refl;
          met = record { state = world_of s; kept = kept; id = id; at = there; word = refl };
          slots = refl;
        },
      )
