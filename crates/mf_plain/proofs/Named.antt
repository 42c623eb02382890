-- The steps of each call on a name.
use Rattle.std.proofs.Common.{◌≡◌, ◌≢◌, ℕ, ◌+◌, ◌-◌, Bool, true, false, cond, eqb, leb, List, [], ◌∷◌}
use Rattle.std.proofs.Common.{length, get_or, set, sym, refl, ap, ◌∙◌, subst, arith, length-set, eq-eqb, ne_eqb}
use Rattle.std.proofs.lemmas.Bool.{le-leb}
use Rattle.std.proofs.lemmas.List.{set-get_or}
use Rattle.mf_machine.specs.declared.answer.LoseStep.TheVariants as losing
use Rattle.mf_machine.specs.declared.answer.State.{State}
use Rattle.mf_machine.specs.declared.answer.State.TheVariants as state
use Rattle.mf_machine.specs.declared.view.View.{View}
use Rattle.mf_machine.specs.Actors.{Free}
use Rattle.mf_machine.specs.File.{HasCell, name_word}
use Rattle.mf_machine.specs.File.Home.{away, empty, keeps}
use Rattle.mf_machine.specs.Moves.{Runs, by, run}
use Rattle.mf_machine.specs.Moves as move
use Rattle.mf_machine.specs.Steps as row
use Rattle.mf_machine.specs.Worlds.{World, word_of, home_of, acted, counted, Row, comes_out, stays, meets}
use Rattle.mf_machine.specs.Worlds.{steps as counts_alone, noted}
use Rattle.mf_machine.proofs.Words.{cell_here}
use Rattle.mf_places.specs.declared.Name.{Name}
use Rattle.mf_places.specs.declared.servers.Servers.{Servers}
use Rattle.mf_places.specs.Facts.{BookFacts}
use Rattle.mf_places.specs.Names.{HasName}
use Rattle.mf_vault.specs.declared.answers.Entry.{Entry}
use Rattle.mf_vault.specs.declared.answers.Got.{Got}
use Rattle.mf_vault.specs.declared.answers.Got.TheVariants as got
use Rattle.mf_vault.specs.declared.answers.Rest.{Rest}
use Rattle.mf_vault.specs.declared.answers.Rest.TheVariants as rest
use Rattle.mf_vault.specs.Facts.{Facts, file, number, stages, cell_of}
use Rattle.mf_vault.specs.Actor.{Actor, Call}
use Rattle.mf_vault.specs.Actor as call
use Rattle.mf_vault.specs.Answers.{IsReached, IsAway, IsState, FairState, FairGot, IsGot, was_dropped, was_lost}
use Rattle.mf_vault.specs.Licence.{IsReady, erased}
use Rattle.mf_vault.specs.May.{MayProbe, MayPut, MayRestore, MayDiscard, MayGet, MayLose}
use Rattle.mf_vault.specs.Resting as resting
use Rattle.mf_vault.proofs.Held.{number_low, cell_is}
use Rattle.mf_plain.specs.declared.known.Known.{Known}
use Rattle.mf_plain.specs.Alone.{Stored, world, actor_at}
use Rattle.mf_plain.specs.Standing.{facts_at, Tied, Stands}
use Rattle.mf_plain.specs.Stored.{IsThere, dropped_of, lost_of}
use Rattle.mf_plain.proofs.Facts as facts
use Rattle.mf_plain.proofs.Going as going
use Rattle.mf_plain.proofs.Steps as steps
use Rattle.mf_plain.proofs.Worlds as worlds

-- what the word of a lost name answers
lost_is : (l : ℕ) → leb 4 (4 + l) ≡ true
lost_is l = le-leb 4 (4 + l) (omega arith)

not_here : (l : ℕ) → eqb (4 + l) 1 ≡ false
not_here l = ne_eqb (4 + l) 1 (λ e. let z : 4 + l ≡ 1 = e in absurd (omega arith))

not_unborn : (l : ℕ) → eqb (4 + l) 0 ≡ false
not_unborn l = ne_eqb (4 + l) 0 (λ e. let z : 4 + l ≡ 0 = e in absurd (omega arith))

not_taken : (l : ℕ) → eqb (4 + l) 2 ≡ false
not_taken l = ne_eqb (4 + l) 2 (λ e. let z : 4 + l ≡ 2 = e in absurd (omega arith))

the_line : (l : ℕ) → 4 + l - 4 ≡ l
the_line l = omega arith

pub sees_lost : (l : ℕ) → row.see_answer (4 + l) ≡ state.Lost l
sees_lost l = ap (λ b. cond b state.Unborn (cond (leb 4 (4 + l)) (state.Lost (4 + l - 4)) state.Here)) (not_unborn l)
    ∙ (ap (λ b. cond b (state.Lost (4 + l - 4)) state.Here) (lost_is l) ∙ ap (λ k. state.Lost k) (the_line l))

pub takes_lost : (l : ℕ) → row.take_answer (4 + l) ≡ row.gone l
takes_lost l = ap (λ b. cond b row.chunk (cond (leb 4 (4 + l)) (row.gone (4 + l - 4)) row.again)) (not_here l)
    ∙ (ap (λ b. cond b (row.gone (4 + l - 4)) row.again) (lost_is l) ∙ ap (λ k. row.gone k) (the_line l))

drops_lost : (l : ℕ) → row.drop_answer (4 + l) ≡ row.tries
drops_lost l = ap (λ b. cond b row.drops (cond (leb 4 (4 + l)) row.tries row.nothing)) (not_here l)
    ∙ ap (λ b. cond b row.tries row.nothing) (lost_is l)

loses_lost : (l : ℕ) → row.lose_answer (4 + l) ≡ losing.Nothing
loses_lost l = ap (λ b. cond b losing.Done (cond (eqb (4 + l) 2) losing.Again losing.Nothing)) (not_here l)
    ∙ ap (λ b. cond b losing.Again losing.Nothing) (not_taken l)

-- what is stored of a name that was answered so
unborn_zero : (r : Rest) → state.Unborn ≡ row.see_answer (resting.word_of r) → resting.word_of r ≡ 0
unborn_zero rest.Unborn e = refl
unborn_zero (rest.Here c) e = absurd (let z : state.Unborn ≡ state.Here = e in cc)
unborn_zero (rest.Lost l) e = absurd (let z : state.Unborn ≡ state.Lost l = e ∙ sees_lost l in cc)
unborn_zero rest.Dropped e = absurd (let z : state.Unborn ≡ state.Here = e in cc)

lost_line : (r : Rest) (l : ℕ) → state.Lost l ≡ row.see_answer (resting.word_of r) → resting.word_of r ≡ 4 + l
lost_line rest.Unborn l e = absurd (let z : state.Lost l ≡ state.Unborn = e in cc)
lost_line (rest.Here c) l e = absurd (let z : state.Lost l ≡ state.Here = e in cc)
lost_line (rest.Lost k) l e =
    ap (λ x. 4 + x) (let z : state.Lost l ≡ state.Lost k = e ∙ sees_lost k in let y : l ≡ k = cc in sym y)
lost_line rest.Dropped l e = absurd (let z : state.Lost l ≡ state.Here = e in cc)

see_sees : (a : State) (n i x : ℕ) (v : View) → erased (counted i x (row.see_view a n v)) ≡ row.see_view a n (erased v)
see_sees state.Unborn n i x v = refl
see_sees state.Here n i x v = refl
see_sees (state.Lost l) n i x v = refl
see_sees (state.Away t) n i x v = refl

-- the row of a step that takes the slot of a name which is Here, by whether it is
abbrev meeting : Facts → ℕ → Bool → (ℕ → View → View) → Row
meeting f n t view = record {
  word = name_word (file f) n;
  becomes = λ y. cond t 2 y;
  slot = λ y. cond t (comes_out n) (stays);
  view = view;
  note = meets;
}

module _ {b : BookFacts} {born ticks : ℕ} {k : Known} {s : Stored} {es : List Entry} {cut : Servers}
    (st : Stands b born ticks k s es cut) where
  abbrev f : Facts
  f = facts_at b born ticks k

  abbrev v : View
  v = k.view

  abbrev w : World
  w = world s v

  abbrev now : Actor
  now = actor_at f s v es cut

  abbrev Step : Call → Stored → Type 0
  Step c s' = going.Step b born ticks k s es cut c s'

  abbrev i_of : Name → ℕ
  i_of x = name_word (file f) (number f x)

  abbrev r_of : Name → Rest
  r_of x = get_or s.names (number f x) rest.Unborn

  abbrev with_name : ℕ → Rest → Stored
  with_name n r = record s { names = set s.names n r }

  long : length s.closed ≡ stages f
  long = st.closed

  word_is : (x : Name) → word_of w (i_of x) ≡ resting.word_of (r_of x)
  word_is x = worlds.name_get f s v long (number f x)

  same_names : (x : Name) → set s.names (number f x) (r_of x) ≡ s.names
  same_names x = set-get_or s.names (number f x) rest.Unborn

  -- the view after a row that leaves the right and the slots
  kept_as : (s' : Stored) (v' : View) → s'.right ≡ s.right → s'.hold ≡ s.hold → s'.work ≡ s.work → v'.share ≡ v.share
      → v'.gone ≡ v.gone
      → v'.strays ≡ v.strays → v'.build.right ≡ v.build.right → v'.hold ≡ v.hold → v'.work ≡ v.work → Free v'
      → Tied s' v' × IsReady f v'
  kept_as = steps.kept_all st

  see_kept : (a : State) (n i x : ℕ) → Tied s (counted i x (row.see_view a n v))
      × IsReady f (counted i x (row.see_view a n v))
  see_kept state.Unborn n i x =
      kept_as s (counted i x (row.see_view state.Unborn n v)) refl refl refl refl refl refl refl refl refl st.ready.free
  see_kept state.Here n i x =
      kept_as s (counted i x (row.see_view state.Here n v)) refl refl refl refl refl refl refl refl refl st.ready.free
  see_kept (state.Lost l) n i x =
      kept_as s (counted i x (row.see_view (state.Lost l) n v)) refl refl refl refl refl refl refl refl refl
      st.ready.free
  see_kept (state.Away t) n i x = kept_as s (counted i x v) refl refl refl refl refl refl refl refl refl st.ready.free

  sees_as : (x : Name) (a : State) → MayProbe x now
      → call.probe_moves (number f x) a ≡ by 0 (move.see (number f x)) ∷ []
      → a ≡ row.see_answer (resting.word_of (r_of x)) → FairState now x a → IsState a (word_of w (i_of x))
      → Step (call.probe x a) s
  sees_as x a m moves e fair told = let n = number f x in let i = i_of x in let xw = word_of w i in
      let v₁ : View = counted i xw (row.see_view a n v) in
      let is : row.see_answer xw ≡ a = ap row.see_answer (word_is x) ∙ sym e in
      let step : run (file f) w (by 0 (move.see n) ∷ []) ≡ world s v₁ = λ j. record {
        words = worlds.again f s v long i j;
        homes = w.homes;
        views = counted i xw (row.see_view (is j) n v) ∷ [];
        hands = w.hands;
      } in
      going.from_run b born ticks k s es cut (call.probe x a) s v₁ (ap (run (file f) w) moves ∙ step)
      (subst (Runs (file f) w) (sym moves) ((steps.active st, steps.idle st, number_low f x m.0, m.1), tt))
      (see_sees a n i xw v) (see_kept a n i xw) refl refl fair told

  -- what is found of a name
  abbrev pub FoundAs : Name → State → Type 0
  FoundAs x state.Unborn = IsReached now x × (state.Unborn ≡ row.see_answer (resting.word_of (r_of x)))
  FoundAs x state.Here = IsReached now x × (state.Here ≡ row.see_answer (resting.word_of (r_of x)))
  FoundAs x (state.Lost l) = IsReached now x × (state.Lost l ≡ row.see_answer (resting.word_of (r_of x)))
  FoundAs x (state.Away t) = IsAway now x t

  -- a probe
  pub probes : (x : Name) (a : State) → MayProbe x now → FoundAs x a → Step (call.probe x a) s
  probes x state.Unborn m q = let told : row.see_answer (word_of w (i_of x)) ≡ state.Unborn =
      ap row.see_answer (word_is x) ∙ sym q.1 in
      sees_as x state.Unborn m refl q.1 (
        q.0,
        λ pin. facts.pinned_born f s v st.holding (number f x) (number_low f x m.0) pin
            (word_is x ∙ unborn_zero (r_of x) q.1),
      ) told
  probes x state.Here m q = sees_as x state.Here m refl q.1 q.0 (ap row.see_answer (word_is x) ∙ sym q.1)
  probes x (state.Lost l) m q = sees_as x (state.Lost l) m refl q.1
      (q.0, facts.lost_line f s v st.holding (number f x) l (number_low f x m.0) (word_is x ∙ lost_line (r_of x) l q.1))
      (ap row.see_answer (word_is x) ∙ sym q.1)
  probes x (state.Away t) m q = going.from_run b born ticks k s es cut (call.probe x (state.Away t)) s v refl tt refl
      (st.tied, st.ready) refl refl q tt

  -- a put and a restore
  brings : (x : Name) (c : List ℕ) → HasName f.book x → c ≡ cell_of f x
      → HasCell (file f) (number f x) (keeps (cell_of f x))
      × (world (with_name (number f x) (rest.Here (cell_of f x))) ≡ world (with_name (number f x) (rest.Here c)))
  brings x c had is = (
    cell_here (file f) (number f x) (keeps (cell_of f x)) (ap keeps (sym (cell_is f x had))),
    ap (λ y. world (with_name (number f x) (rest.Here y))) (sym is),
  )

  here_not_away : (c : List ℕ) → keeps c ≢ away
  here_not_away c e = absurd (let z : keeps c ≡ away = e in cc)

  empty_not_away : empty ≢ away
  empty_not_away e = absurd (let z : empty ≡ away = e in cc)

  pub puts : (x : Name) (c : List ℕ) → MayPut x now → c ≡ cell_of f x
      → Step (call.put x) (with_name (number f x) (rest.Here c))
  puts x c m is = let n = number f x in let i = i_of x in let xw = word_of w i in
      let v₁ : View = counted i xw (row.bearing n v) in let v₂ : View = row.born n v₁ in let z = brings x c m.0 is in
      let free = st.ready.free in
      going.from_run b born ticks k s es cut (call.put x) (with_name n (rest.Here c)) v₂
      (worlds.turned f s v long n (rest.Here (cell_of f x)) v₂ ∙ ap (λ y. y v₂) z.1) (
        (steps.active st, steps.free st, number_low f x m.0, m.1, m.2),
        (((steps.active st, (omega arith)), here_not_away (cell_of f x)), (((steps.active st, refl), z.0), tt)),
      )
      refl (kept_as (with_name n (rest.Here c)) v₂ refl refl refl refl refl refl refl refl refl (omega arith)) refl
      (length-set s.names n (rest.Here c)) tt tt

  pub restores : (x : Name) (c : List ℕ) → MayRestore x now → c ≡ cell_of f x
      → Step (call.restore x) (with_name (number f x) (rest.Here c))
  restores x c m is = let n = number f x in let i = i_of x in let xw = word_of w i in
      let v₁ : View = counted i xw (row.retaking n v) in let v₂ : View = row.restored n v₁ in let z =
      brings x c m.0 is in
      let free = st.ready.free in
      going.from_run b born ticks k s es cut (call.restore x) (with_name n (rest.Here c)) v₂
      (worlds.turned f s v long n (rest.Here (cell_of f x)) v₂ ∙ ap (λ y. y v₂) z.1) (
        (steps.active st, steps.free st, number_low f x m.0, m.1, m.2),
        (((steps.active st, (omega arith)), here_not_away (cell_of f x)), (((steps.active st, refl), z.0), tt)),
      )
      refl (kept_as (with_name n (rest.Here c)) v₂ refl refl refl refl refl refl refl refl refl (omega arith)) refl
      (length-set s.names n (rest.Here c)) tt tt

  -- a step that leaves the name, with this view
  leaves : (x : Name) (r : Rest) (v' : View) → r_of x ≡ r → record {
    words = set w.words (i_of x) (word_of w (i_of x));
    homes = w.homes;
    views = v' ∷ [];
    hands = w.hands;
  } ≡ world (with_name (number f x) r) v'
  leaves x r v' e =
      (λ j. record { words = worlds.again f s v long (i_of x) j; homes = w.homes; views = v' ∷ []; hands = w.hands })
      ∙ ap (λ l. world (record s { names = l }) v') (sym (same_names x) ∙ ap (set s.names (number f x)) e)

  -- a discard
  drops_none : (x : Name) (r : Rest) → r_of x ≡ r → MayDiscard x now → row.drop_answer (resting.word_of r) ≡ row.nothing
      → eqb (resting.word_of r) 1 ≡ false → dropped_of r ≡ r → (a : Bool) → a ≡ false
      → Step (call.discard x a) (with_name (number f x) (dropped_of r))
  drops_none x r e m none there same a is = let n = number f x in let i = i_of x in let xw = word_of w i in
      let word : xw ≡ resting.word_of r = word_is x ∙ ap resting.word_of e in
      let answer : row.drop_answer xw ≡ row.nothing = ap row.drop_answer word ∙ none in
      let not_one : eqb xw 1 ≡ false = ap (λ y. eqb y 1) word ∙ there in
      let v₁ : View = counted i xw (row.not_dropped n v) in
      let first : run (file f) w (by 0 (move.drop n) ∷ []) ≡ record {
        words = set w.words i xw;
        homes =
            w.homes;
        views = v₁ ∷ [];
        hands = w.hands;
      } =
      (λ j. acted (meeting f n (not_one j) (row.drop_view (answer j) n)) xw w 0) in
      let free = st.ready.free in
      let step : Step (call.discard x false) (with_name n r) =
      going.from_run b born ticks k s es cut (call.discard x false) (with_name n r) v₁
      (ap (λ d. run (file f) w (call.drop_moves n d)) answer ∙ (first ∙ leaves x r v₁ e))
      (subst (λ d. Runs (file f) w (call.drop_moves n d)) (sym answer)
      ((steps.active st, steps.free st, number_low f x m.0, m.1), tt))
      refl (kept_as (with_name n r) v₁ refl refl refl refl refl refl refl refl refl (omega arith)) refl
      (length-set s.names n r) tt
      (sym (ap was_dropped answer)) in
      subst (λ y. Step (call.discard x y) (with_name n (dropped_of r))) (sym is)
      (subst (λ y. Step (call.discard x false) (with_name n y)) (sym same) step)

  drops_here : (x : Name) (c : List ℕ) → r_of x ≡ rest.Here c → MayDiscard x now
      → Step (call.discard x true) (with_name (number f x) rest.Dropped)
  drops_here x c e m = let n = number f x in let i = i_of x in let xw = word_of w i in
      let word : xw ≡ 1 = word_is x ∙ ap resting.word_of e in
      let answer : row.drop_answer xw ≡ row.drops = ap row.drop_answer word in
      let v₁ : View = counted i xw (row.dropping n v) in let v₂ : View = row.dropped n v₁ in
      let w₁ : World = acted (meeting f n true (row.drop_view row.drops n)) xw w 0 in
      let first : acted (row.drop_row (file f) n) xw w 0 ≡ w₁ =
      (λ j. acted (meeting f n (ap (λ y. eqb y 1) word j) (row.drop_view (answer j) n)) xw w 0) in
      let free = st.ready.free in
      going.from_run b born ticks k s es cut (call.discard x true) (with_name n rest.Dropped) v₂
      (ap (λ d. run (file f) w (call.drop_moves n d)) answer
      ∙ (ap (λ y. run (file f) y (call.emptied ∷ by 0 (move.dropped n) ∷ [])) first
      ∙ worlds.turned f s v long n rest.Dropped v₂))
      (subst (λ d. Runs (file f) w (call.drop_moves n d)) (sym answer) (
        (steps.active st, steps.free st, number_low f x m.0, m.1),
        subst (λ y. Runs (file f) y (call.emptied ∷ by 0 (move.dropped n) ∷ [])) (sym first)
            (((steps.active st, (omega arith)), empty_not_away), (((steps.active st, refl), refl), tt)),
      ))
      refl (kept_as (with_name n rest.Dropped) v₂ refl refl refl refl refl refl refl refl refl (omega arith)) refl
      (length-set s.names n rest.Dropped) tt (sym (ap was_dropped answer))

  drops_lost_name : (x : Name) (l : ℕ) → r_of x ≡ rest.Lost l → MayDiscard x now
      → Step (call.discard x true) (with_name (number f x) rest.Dropped)
  drops_lost_name x l e m = let n = number f x in let i = i_of x in let xw = word_of w i in
      let word : xw ≡ 4 + l = word_is x ∙ ap resting.word_of e in
      let answer : row.drop_answer xw ≡ row.tries = ap row.drop_answer word ∙ drops_lost l in
      let not_one : eqb xw 1 ≡ false = ap (λ y. eqb y 1) word ∙ not_here l in
      let v₁ : View = counted i xw (row.trying n xw v) in
      let v₂ : View = counted i xw (row.dropped_lost n v₁) in
      let w₁ : World = record { words = w.words; homes = w.homes; views = v₁ ∷ []; hands = w.hands } in
      let first : acted (row.drop_row (file f) n) xw w 0 ≡ w₁ =
      (λ j. acted (meeting f n (not_one j) (row.drop_view (answer j) n)) xw w 0)
      ∙ (λ j. record { words = worlds.again f s v long i j; homes = w.homes; views = v₁ ∷ []; hands = w.hands }) in
      let second : run (file f) w₁ (by 0 (move.drop_again n) ∷ []) ≡ world (with_name n rest.Dropped) v₂ =
      (λ j. record {
        words = set w.words i (cond (eq-eqb xw xw refl j) 3 xw);
        homes = w.homes;
        views = counted i xw (row.drop_again_view (eq-eqb xw xw refl j) n v₁) ∷ [];
        hands = w.hands;
      }) ∙ ((λ j. record { words = set w.words i 3; homes = bare_home x l e j; views = v₂ ∷ []; hands = w.hands })
      ∙ sym (worlds.named f s v long n rest.Dropped v₂)) in
      let free = st.ready.free in
      going.from_run b born ticks k s es cut (call.discard x true) (with_name n rest.Dropped) v₂
      (ap (λ d. run (file f) w (call.drop_moves n d)) answer
      ∙ (ap (λ y. run (file f) y (by 0 (move.drop_again n) ∷ [])) first ∙ second))
      (subst (λ d. Runs (file f) w (call.drop_moves n d)) (sym answer) (
        (steps.active st, steps.free st, number_low f x m.0, m.1),
        subst (λ y. Runs (file f) y (by 0 (move.drop_again n) ∷ [])) (sym first) ((steps.active st, refl), tt),
      ))
      refl (kept_as (with_name n rest.Dropped) v₂ refl refl refl refl refl refl refl refl refl (omega arith)) refl
      (length-set s.names n rest.Dropped) tt (sym (ap was_dropped answer))
    where
      -- the slot of a lost name is empty already
      bare_home : (x : Name) (l : ℕ) → r_of x ≡ rest.Lost l → w.homes ≡ set w.homes (number f x) empty
      bare_home x l e =
          sym (ap (set w.homes (number f x)) (sym (worlds.home_get f s v long (number f x) ∙ ap resting.home_of e))
          ∙ set-get_or w.homes (number f x) empty)

  pub drops : (x : Name) (r : Rest) (a : Bool) → r_of x ≡ r → MayDiscard x now
      → a ≡ was_dropped (row.drop_answer (resting.word_of r))
      → Step (call.discard x a) (with_name (number f x) (dropped_of r))
  drops x rest.Unborn a e m is = drops_none x rest.Unborn e m refl refl refl a is
  drops x rest.Dropped a e m is = drops_none x rest.Dropped e m refl refl refl a is
  drops x (rest.Here c) a e m is =
      subst (λ y. Step (call.discard x y) (with_name (number f x) rest.Dropped)) (sym is) (drops_here x c e m)
  drops x (rest.Lost l) a e m is = subst (λ y. Step (call.discard x y) (with_name (number f x) rest.Dropped))
      (sym (is ∙ ap was_dropped (drops_lost l))) (drops_lost_name x l e m)

  -- a lose
  loses_here : (x : Name) (c : List ℕ) (l : ℕ) → r_of x ≡ rest.Here c → MayLose x l now
      → Step (call.lose x l true) (with_name (number f x) (rest.Lost l))
  loses_here x c l e m = let n = number f x in let i = i_of x in let xw = word_of w i in
      let word : xw ≡ 1 = word_is x ∙ ap resting.word_of e in
      let answer : row.lose_answer xw ≡ losing.Done = ap row.lose_answer word in
      let v₁ : View = counted i xw (row.losing n l v) in let v₂ : View = row.lost n l v₁ in
      let w₁ : World = acted (meeting f n true (λ y. row.lose_view losing.Done n l)) xw w 0 in
      let first : acted (row.lose_row (file f) n l) xw w 0 ≡ w₁ =
      (λ j. acted (meeting f n (ap (λ y. eqb y 1) word j) (λ y. row.lose_view (answer j) n l)) xw w 0) in
      let free = st.ready.free in
      going.from_run b born ticks k s es cut (call.lose x l true) (with_name n (rest.Lost l)) v₂
      (ap (λ d. run (file f) w (call.lose_moves n l d)) answer
      ∙ (ap (λ y. run (file f) y (call.emptied ∷ by 0 (move.lost n l) ∷ [])) first
      ∙ worlds.turned f s v long n (rest.Lost l) v₂))
      (subst (λ d. Runs (file f) w (call.lose_moves n l d)) (sym answer) (
        (steps.active st, steps.free st, number_low f x m.0, m.1),
        subst (λ y. Runs (file f) y (call.emptied ∷ by 0 (move.lost n l) ∷ [])) (sym first)
            (((steps.active st, (omega arith)), empty_not_away), (((steps.active st, refl, refl, m.1), refl), tt)),
      ))
      refl (kept_as (with_name n (rest.Lost l)) v₂ refl refl refl refl refl refl refl refl refl (omega arith)) refl
      (length-set s.names n (rest.Lost l)) tt (sym answer)

  loses_none : (x : Name) (r : Rest) (l : ℕ) → r_of x ≡ r → MayLose x l now
      → row.lose_answer (resting.word_of r) ≡ losing.Nothing
      → eqb (resting.word_of r) 1 ≡ false → Step (call.lose x l false) (with_name (number f x) r)
  loses_none x r l e m none there = let n = number f x in let i = i_of x in let xw = word_of w i in
      let word : xw ≡ resting.word_of r = word_is x ∙ ap resting.word_of e in
      let answer : row.lose_answer xw ≡ losing.Nothing = ap row.lose_answer word ∙ none in
      let not_one : eqb xw 1 ≡ false = ap (λ y. eqb y 1) word ∙ there in
      let v₁ : View = counted i xw (row.not_lost n v) in
      let first : run (file f) w (by 0 (move.lose n l) ∷ []) ≡ record {
        words = set w.words i xw;
        homes =
            w.homes;
        views = v₁ ∷ [];
        hands = w.hands;
      } =
      (λ j. acted (meeting f n (not_one j) (λ y. row.lose_view (answer j) n l)) xw w 0) in
      let free = st.ready.free in
      going.from_run b born ticks k s es cut (call.lose x l false) (with_name n r) v₁
      (ap (λ d. run (file f) w (call.lose_moves n l d)) answer ∙ (first ∙ leaves x r v₁ e))
      (subst (λ d. Runs (file f) w (call.lose_moves n l d)) (sym answer)
      ((steps.active st, steps.free st, number_low f x m.0, m.1), tt))
      refl (kept_as (with_name n r) v₁ refl refl refl refl refl refl refl refl refl free) refl (length-set s.names n r)
      tt (sym answer)

  pub loses : (x : Name) (r : Rest) (l : ℕ) (a : Bool) → r_of x ≡ r → MayLose x l now
      → was_lost a ≡ row.lose_answer (resting.word_of r)
      → Step (call.lose x l a) (with_name (number f x) (lost_of l r))
  loses x rest.Unborn l true e m is = absurd (let z : losing.Done ≡ losing.Nothing = is in cc)
  loses x rest.Unborn l false e m is = loses_none x rest.Unborn l e m refl refl
  loses x (rest.Here c) l true e m is = loses_here x c l e m
  loses x (rest.Here c) l false e m is = absurd (let z : losing.Nothing ≡ losing.Done = is in cc)
  loses x (rest.Lost j) l true e m is = absurd (let z : losing.Done ≡ losing.Nothing = is ∙ loses_lost j in cc)
  loses x (rest.Lost j) l false e m is = loses_none x (rest.Lost j) l e m (loses_lost j) (not_here j)
  loses x rest.Dropped l true e m is = absurd (let z : losing.Done ≡ losing.Nothing = is in cc)
  loses x rest.Dropped l false e m is = loses_none x rest.Dropped l e m refl refl

  -- a get
  gets_here : (x : Name) (c : List ℕ) (o : Got) → r_of x ≡ rest.Here c → MayGet x now
      → call.get_moves (number f x) o ≡ by 0 (move.take (number f x)) ∷ by 0 (move.give (number f x)) ∷ []
      → ((y : View) → call.got_by (number f x) o y ≡ row.told_here (number f x) y) → FairGot now x o
      → IsGot o (word_of w (i_of x)) → Step (call.get x o) s
  gets_here x c o e m moves rows fair told = let n = number f x in let i = i_of x in let xw = word_of w i in
      let word : xw ≡ 1 = word_is x ∙ ap resting.word_of e in
      let answer : row.take_answer xw ≡ row.chunk = ap row.take_answer word in
      let home : home_of w n ≡ keeps c = worlds.home_get f s v long n ∙ ap resting.home_of e in
      let cell : c ≡ (file f).cell n = facts.here_cell f s v st.holding n (number_low f x m.0) word c home in
      let v₁ : View = counted i xw (row.took n v) in let v₂ : View = noted counts_alone i 2 (row.gave v₁) in
      let w₁ : World = acted (meeting f n true (λ y. row.take_view row.chunk n)) xw w 0 in
      let first : acted (row.take_row (file f) n) xw w 0 ≡ w₁ =
      (λ j. acted (meeting f n (ap (λ y. eqb y 1) word j) (λ y. row.take_view (answer j) n)) xw w 0) in
      let free = st.ready.free in
      going.from_run b born ticks k s es cut (call.get x o) s v₂
      (ap (run (file f) w) moves
      ∙ (ap (λ y. run (file f) y (by 0 (move.give n) ∷ [])) first ∙ worlds.returned f s v long n v₂ word))
      (subst (Runs (file f) w) (sym moves) (
        (steps.active st, steps.free st, number_low f x m.0, m.1),
        subst (λ y. Runs (file f) y (by 0 (move.give n) ∷ [])) (sym first)
            (((steps.active st, refl), cell_here (file f) n (home_of w n) (home ∙ ap keeps cell)), tt),
      ))
      (sym (rows (erased v))) (kept_as s v₂ refl refl refl refl refl refl refl refl refl (omega arith)) refl refl fair
      told

  gets_lost : (x : Name) (l : ℕ) → r_of x ≡ rest.Lost l → MayGet x now → IsReached now x
      → Step (call.get x (got.Lost l)) s
  gets_lost x l e m reached = let n = number f x in let i = i_of x in let xw = word_of w i in
      let word : xw ≡ 4 + l = word_is x ∙ ap resting.word_of e in
      let answer : row.take_answer xw ≡ row.gone l = ap row.take_answer word ∙ takes_lost l in
      let not_one : eqb xw 1 ≡ false = ap (λ y. eqb y 1) word ∙ not_here l in
      let v₁ : View = counted i xw (row.told_lost n l v) in
      let first : run (file f) w (by 0 (move.take n) ∷ []) ≡ world s v₁ =
      (λ j. acted (meeting f n (not_one j) (λ y. row.take_view (answer j) n)) xw w 0)
      ∙ (λ j. record { words = worlds.again f s v long i j; homes = w.homes; views = v₁ ∷ []; hands = w.hands }) in
      going.from_run b born ticks k s es cut (call.get x (got.Lost l)) s v₁ first
      ((steps.active st, steps.free st, number_low f x m.0, m.1), tt) refl
      (kept_as s v₁ refl refl refl refl refl refl refl refl refl st.ready.free) refl refl
      (reached, facts.lost_line f s v st.holding n l (number_low f x m.0) word) answer

  -- what is got of a name
  abbrev pub GotAs : Name → Got → Type 0
  GotAs x (got.Here c) = IsReached now x × (r_of x ≡ rest.Here c)
  GotAs x (got.Lost l) = IsReached now x × (r_of x ≡ rest.Lost l)
  GotAs x (got.Away t) = IsAway now x t
  GotAs x got.Memory = IsReached now x × ((c : List ℕ) × (r_of x ≡ rest.Here c))

  pub gets : (x : Name) (o : Got) → MayGet x now → GotAs x o → Step (call.get x o) s
  gets x (got.Here c) m q = let word = word_is x ∙ ap resting.word_of q.1 in
      let home : home_of w (number f x) ≡ keeps c = worlds.home_get f s v long (number f x) ∙ ap resting.home_of q.1 in
      gets_here x c (got.Here c) q.1 m refl (λ y. refl) (
        q.0,
        facts.here_cell f s v st.holding (number f x) (number_low f x m.0) word c home
            ∙ cell_is f x m.0,
      ) (ap row.take_answer word)
  gets x (got.Lost l) m q = gets_lost x l q.1 m q.0
  gets x (got.Away t) m q = going.from_run b born ticks k s es cut (call.get x (got.Away t)) s v refl tt refl
      (st.tied, st.ready) refl refl q tt
  gets x got.Memory m q = let word = word_is x ∙ ap resting.word_of q.1.1 in
      gets_here x q.1.0 got.Memory q.1.1 m refl (λ y. refl) q.0 (ap row.take_answer word)

  -- a name of a pinned generation is Here or Lost
  pub there : (x : Name) (r : Rest) → r_of x ≡ r → MayGet x now → IsThere r
  there x rest.Unborn e m =
      facts.pinned_born f s v st.holding (number f x) (number_low f x m.0) m.1 (word_is x ∙ ap resting.word_of e)
  there x (rest.Here c) e m = tt
  there x (rest.Lost l) e m = tt
  there x rest.Dropped e m =
      facts.pinned_there f s v st.holding (number f x) (number_low f x m.0) m.1 (word_is x ∙ ap resting.word_of e)
