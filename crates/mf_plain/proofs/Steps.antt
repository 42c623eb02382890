-- The steps of each call without an entry.
use Rattle.std.proofs.Common.{◌≡◌, ◌≢◌, ℕ, ◌+◌, ◌-◌, ◌*◌, ◌<◌, ◌≤◌, Bool, true, false, cond, eqb, List, [], ◌∷◌}
use Rattle.std.proofs.Common.{length, get_or, set, Option, Some, None, sym, refl, ap, ◌∙◌, subst, ⊎_elim, arith}
use Rattle.std.proofs.Common.{length-set}
use Rattle.std.proofs.lemmas.Bool.{lt-ltb}
use mathlib.Core.Logic.{dite}
use native.Mathlib.Decide.{ℕ_discrete}
use Rattle.std.proofs.lemmas.List.{set-get_or, get_or_read}
use Rattle.mf_machine.specs.declared.answer.Closed.{Closed}
use Rattle.mf_machine.specs.declared.answer.Closed.TheVariants.{Done, Pins, Already}
use Rattle.mf_machine.specs.declared.answer.Slot.{Slot}
use Rattle.mf_machine.specs.declared.answer.Slot.TheVariants.{Hold, Work}
use Rattle.mf_machine.specs.declared.view.View.{View}
use Rattle.mf_machine.specs.Actors.{Active, Free, Idle, on}
use Rattle.mf_machine.specs.Counts.{truth, bit}
use Rattle.mf_machine.specs.Moves.{Runs, by, run}
use Rattle.mf_machine.specs.Moves as move
use Rattle.mf_machine.specs.Steps as row
use Rattle.mf_machine.specs.Worlds.{World, word_of, acted, counted, word_row}
use Rattle.mf_machine.proofs.Lists.{bit_is, bit_not}
use Rattle.mf_places.specs.declared.servers.Servers.{Servers}
use Rattle.mf_places.specs.Facts.{BookFacts}
use Rattle.mf_vault.specs.declared.answers.Entry.{Entry}
use Rattle.mf_vault.specs.declared.answers.Pinned.{Pinned}
use Rattle.mf_vault.specs.declared.answers.Pinned.TheVariants.{At, Absent, Removed}
use Rattle.mf_vault.specs.Facts.{Facts, file, stages, place}
use Rattle.mf_vault.specs.Actor.{Actor, Call}
use Rattle.mf_vault.specs.Actor as call
use Rattle.mf_vault.specs.Answers.{IsNumber, FairClose}
use Rattle.mf_vault.specs.Licence.{IsReady, erased}
use Rattle.mf_vault.specs.May.{MayPin, MayUnpin, MayPublish, MayClose}
use Rattle.mf_vault.proofs.Closing.{fair_close}
use Rattle.mf_plain.specs.declared.known.Known.{Known}
use Rattle.mf_plain.specs.Alone.{Stored, world, actor_at, pins_of}
use Rattle.mf_plain.specs.Standing.{facts_at, Tied, Stands}
use Rattle.mf_plain.specs.Stored.{pinned_hold, pinned_work, freed_hold, freed_work, shut_by}
use Rattle.mf_plain.proofs.Facts as facts
use Rattle.mf_plain.proofs.Going as going
use Rattle.mf_plain.proofs.Worlds as worlds

-- what a close of a generation with so few pins writes
few : (P : ℕ → Type 0) → P 0 → P 1 → P 2 → (p : ℕ) → p ≤ 2 → P p
few P a b c p l = dite (ℕ_discrete p 0) (λ e. subst P (sym e) a) (λ m. dite (ℕ_discrete p 1) (λ e. subst P (sym e) b)
    (λ n. subst P (let e : 2 ≡ p = omega arith in e) c))

close_word : (shut : Bool) (p : ℕ) → p ≤ 2
    → cond (eqb (9223372036854775808 * truth shut + p) 0) 9223372036854775808 (9223372036854775808 * truth shut + p)
    ≡ 9223372036854775808 * truth (shut_by (row.close_answer (9223372036854775808 * truth shut + p)) shut) + p
close_word true p l =
    few (λ p. cond (eqb (9223372036854775808 * truth true + p) 0) 9223372036854775808
    (9223372036854775808 * truth true + p)
    ≡ 9223372036854775808 * truth (shut_by (row.close_answer (9223372036854775808 * truth true + p)) true) + p) refl
    refl refl p l
close_word false p l =
    few (λ p. cond (eqb (9223372036854775808 * truth false + p) 0) 9223372036854775808
    (9223372036854775808 * truth false + p)
    ≡ 9223372036854775808 * truth (shut_by (row.close_answer (9223372036854775808 * truth false + p)) false) + p) refl
    refl refl p l

closed_sees : (c : Closed) (g i x : ℕ) (v : View)
    → erased (counted i x (row.close_view c g v)) ≡ row.close_view c g (erased v)
closed_sees Done g i x v = refl
closed_sees (Pins n) g i x v = refl
closed_sees Already g i x v = refl

module _ {b : BookFacts} {born ticks : ℕ} {k : Known} {s : Stored} {es : List Entry} {cut : Servers}
    (st : Stands b born ticks k s es cut) where
  abbrev f : Facts
  f = facts_at b born ticks k

  abbrev v : View
  v = k.view

  abbrev w : World
  w = world s v

  abbrev Step : Call → Stored → Type 0
  Step c s' = going.Step b born ticks k s es cut c s'

  pub active : Active v
  active = st.ready.active

  pub free : Free v
  free = st.ready.free

  pub idle : Idle v
  idle = let e = st.ready.free in omega arith

  -- the view after a row is tied and ready
  pub kept : (s' : Stored) (v' : View) → v'.share ≡ v.share → v'.gone ≡ v.gone → v'.strays ≡ v.strays
      → v'.build.right ≡ truth s'.right → v'.hold ≡ place s'.hold → v'.work ≡ place s'.work → Free v'
      → place s'.hold ≤ stages f → place s'.work ≤ stages f → Tied s' v' × IsReady f v'
  kept s' v' share gone strays right hold work free' low low' = (
    record {
      share = share ∙ st.tied.share;
      gone = gone ∙ st.tied.gone;
      strays = strays ∙ st.tied.strays;
      right = right;
      hold = hold;
      work = work;
    },
    record {
      active = let a = st.ready.active in omega arith;
      free = free';
      hold = omega arith;
      work = omega arith;
      right = let z = bool_low s'.right in omega arith;
    },
  )
    where
      bool_low : (x : Bool) → truth x ≤ 1
      bool_low true = omega arith
      bool_low false = omega arith

  pub hold_low : place s.hold ≤ stages f
  hold_low = let a = st.tied.hold in let l = st.ready.hold in omega arith

  pub work_low : place s.work ≤ stages f
  work_low = let a = st.tied.work in let l = st.ready.work in omega arith

  -- where the right and the slots stay
  pub kept_all : (s' : Stored) (v' : View) → s'.right ≡ s.right → s'.hold ≡ s.hold → s'.work ≡ s.work
      → v'.share ≡ v.share → v'.gone ≡ v.gone
      → v'.strays ≡ v.strays → v'.build.right ≡ v.build.right → v'.hold ≡ v.hold → v'.work ≡ v.work → Free v'
      → Tied s' v' × IsReady f v'
  kept_all s' v' sr sh sw share gone strays right hold work free' = kept s' v' share gone strays
      (right ∙ (st.tied.right ∙ ap truth (sym sr))) (hold ∙ (st.tied.hold ∙ ap place (sym sh))) (work
      ∙ (st.tied.work ∙ ap place (sym sw))) free'
      (let l = hold_low in let e = ap place sh in omega arith) (let l = work_low in let e = ap place sw in omega arith)

  pub cuts : (servers : Servers) → Step (call.cut_off servers) s
  cuts servers =
      going.from_run b born ticks k s es cut (call.cut_off servers) s v refl tt refl (st.tied, st.ready) refl refl tt tt

  pub ends : v.build.right ≡ 1 → Step call.end (record s { right = false })
  ends r =
      going.from_run b born ticks k s es cut call.end (record s {
        right =
            false;
      }) (counted 1 (truth s.right) (row.ended v)) refl
      ((active, idle, r), tt) refl
      (kept (record s {
        right =
            false;
      }) (counted 1 (truth s.right) (row.ended v)) refl refl refl refl st.tied.hold st.tied.work free hold_low work_low)
      refl refl tt tt

  pub begins : v.build.right ≡ 0 → Step (call.begin true) (record s { right = true })
  begins r = let e : truth s.right ≡ 0 = sym st.tied.right ∙ r in
      going.from_run b born ticks k s es cut (call.begin true) (record s { right = true }) (counted 1 0 (row.begun v))
      (ap (λ x. acted row.begin_row x w 0) e) ((active, idle, r), tt) refl
      (kept (record s {
        right =
            true;
      }) (counted 1 0 (row.begun v)) refl refl refl refl st.tied.hold st.tied.work free hold_low work_low)
      refl refl tt (sym (ap row.begin_answer e))

  pub publishes : (next : ℕ) → MayPublish next (actor_at f s v es cut)
      → Step (call.publish next) (record s { number = next })
  publishes next m = going.from_run b born ticks k s es cut (call.publish next) (record s { number = next })
      (counted 0 s.number (row.published next v)) refl ((active, idle, m.0, m.1, m.2), tt) refl
      (kept_all (record s {
        number =
            next;
      }) (counted 0 s.number (row.published next v)) refl refl refl refl refl refl refl refl refl free)
      refl refl above tt
    where
      above : v.seen.number < next
      above = let low = facts.number_seen f s v st.holding in let now = facts.current f s v st.holding m.0 m.1 in
          let l = m.2.1 in
          ⊎_elim (λ t. let e = t.0 in omega arith) (λ t. let e = t.0 in let h = t.2 in omega arith) m.2.2

  finds : (slot : Slot) (p : Pinned) (n : ℕ) → s.number ≡ n → ((x : View) → row.looked n x ≡ call.pinned f slot p x)
      → Rattle.mf_vault.specs.Answers.IsPin f p (erased v) → IsNumber (stages f) p s.number
      → call.pin_moves slot p ≡ by 0 move.look ∷ []
      → Step (call.pin slot [] p) s
  finds slot p n e rows fair told only =
      going.from_run b born ticks k s es cut (call.pin slot [] p) s (counted 0 s.number (row.looked s.number v))
      (ap (run (file f) w) only) (subst (Runs (file f) w) (sym only) ((active, idle), tt))
      (ap (λ x. erased (row.looked x v)) e ∙ rows (erased v))
      (kept_all s (counted 0 s.number (row.looked s.number v)) refl refl refl refl refl refl refl refl refl free)
      refl refl fair (refl, told)

  pub finds_none : (slot : Slot) → s.number ≡ 0 → Step (call.pin slot [] Absent) s
  finds_none slot e =
      finds slot Absent 0 e (λ x. refl) (let l = facts.number_seen f s v st.holding in omega arith) e refl

  pub finds_removed : (slot : Slot) → s.number ≡ stages f + 1 → Step (call.pin slot [] Removed) s
  finds_removed slot e =
      finds slot Removed (stages f + 1) e (λ x. refl) (let l = facts.number_seen f s v st.holding in omega arith) e refl

  long : length s.closed ≡ stages f
  long = st.closed

  -- a slot that is filled, or freed, at g, and the other slot with any place
  filled_on : (g place : ℕ) → on g (g + 1) place ≡ on g 0 place + 1
  filled_on g place = let a = bit_is (g + 1) (g + 1) refl in let z =
      bit_not 0 (g + 1) (λ e. let y : 0 ≡ g + 1 = e in absurd (omega arith)) in omega arith

  filled_else : (g j place : ℕ) → j ≢ g → on j 0 place ≡ on j (g + 1) place
  filled_else g j place ne = let a = bit_not (g + 1) (j + 1) (λ e. ne (let y : g + 1 ≡ j + 1 = e in omega arith)) in
      let z = bit_not 0 (j + 1) (λ e. let y : 0 ≡ j + 1 = e in absurd (omega arith)) in omega arith

  -- the world after a pin, and after an unpin, of either slot
  module _ (g : ℕ) (low : g < length s.closed) where
    bit_of : Bool
    bit_of = get_or s.closed g false

    same_closed : set s.closed g (get_or s.closed g false) ≡ s.closed
    same_closed = set-get_or s.closed g false

    slots : (hold' work' : Option ℕ) (x : ℕ) (v' : View)
        → ((j : ℕ) → (j ≡ g → ⊥) → pins_of s.hold s.work j ≡ pins_of hold' work' j)
        → x + pins_of s.hold s.work g ≡ word_of w (g + 2) + pins_of hold' work' g
        → record { words = set w.words (g + 2) x; homes = w.homes; views = v' ∷ []; hands = w.hands }
        ≡ world (record s { hold = hold'; work = work' }) v'
    slots hold' work' x v' same at = let word = worlds.pin_get f s v long g low in
        worlds.pins_are f s v long hold' work' g x (get_or s.closed g false) v' low same (omega arith)
        ∙ ap (λ l. world (record s { hold = hold'; work = work'; closed = l }) v') same_closed

  unopened : (g : ℕ) → word_of w (g + 2) ≤ 3221225472 → row.pin_answer (word_of w (g + 2)) ≡ true
  unopened g l = lt-ltb (word_of w (g + 2)) 9223372036854775808 (omega arith)

  pins_hold : (g : ℕ) → s.number ≡ g + 1 → g < stages f → v.hold ≡ 0
      → Step (call.pin Hold [] (At g)) (record s { hold = Some g })
  pins_hold g e low free_slot = let v₁ : View = counted 0 s.number (row.looked s.number v) in
      let x = word_of w (g + 2) in let few = facts.open_at f s v st.holding g e low in
      let v₂ : View = counted (g + 2) x (row.pinned Hold g v₁) in
      let none : place s.hold ≡ 0 = sym st.tied.hold ∙ free_slot in
      let far : (j : ℕ) → (j ≡ g → ⊥) → pins_of s.hold s.work j ≡ pins_of (Some g) s.work j =
      λ j ne. ap (λ y. on j y (place s.work)) none ∙ filled_else g j (place s.work) ne in
      let near : pins_of (Some g) s.work g ≡ pins_of s.hold s.work g + 1 =
      filled_on g (place s.work) ∙ ap (λ y. on g y (place s.work) + 1) (sym none) in
      let to : run (file f) w (call.pin_moves Hold (At g)) ≡ world (record s { hold = Some g }) v₂ =
      ap (λ t. acted (word_row (g + 2) (λ y. y + 1) (λ y. row.pin_view t Hold g)) x (world s v₁) 0) (unopened g few)
      ∙ slots g (let l = long in omega arith) (Some g) s.work (x + 1) v₂ far (omega arith) in
      going.from_run b born ticks k s es cut (call.pin Hold [] (At g)) (record s { hold = Some g }) v₂ to (
        (active, idle),
        (
          (active, idle, low, free_slot, ap (λ y. y + 1) e, facts.unshut_at f s v st.holding g e low),
          tt,
        ),
      )
      (ap (λ y. erased (row.pinned Hold g (row.looked y v))) e)
      (kept (record s { hold = Some g }) v₂ refl refl refl st.tied.right refl st.tied.work free (omega arith) work_low)
      refl refl (low, (let l = facts.number_seen f s v st.holding in omega arith)) (refl, (e, low))

  pins_work : (g : ℕ) → s.number ≡ g + 1 → g < stages f → v.work ≡ 0
      → Step (call.pin Work [] (At g)) (record s { work = Some g })
  pins_work g e low free_slot = let v₁ : View = counted 0 s.number (row.looked s.number v) in
      let x = word_of w (g + 2) in let few = facts.open_at f s v st.holding g e low in
      let v₂ : View = counted (g + 2) x (row.pinned Work g v₁) in
      let none : place s.work ≡ 0 = sym st.tied.work ∙ free_slot in
      let far : (j : ℕ) → (j ≡ g → ⊥) → pins_of s.hold s.work j ≡ pins_of s.hold (Some g) j =
      λ j ne. ap (λ y. on j (place s.hold) y) none ∙ (let z = filled_else g j (place s.hold) ne in omega arith) in
      let near : pins_of s.hold (Some g) g ≡ pins_of s.hold s.work g + 1 =
      (let z = filled_on g (place s.hold) in let y = ap (λ y. on g (place s.hold) y) none in omega arith) in
      let to : run (file f) w (call.pin_moves Work (At g)) ≡ world (record s { work = Some g }) v₂ =
      ap (λ t. acted (word_row (g + 2) (λ y. y + 1) (λ y. row.pin_view t Work g)) x (world s v₁) 0) (unopened g few)
      ∙ slots g (let l = long in omega arith) s.hold (Some g) (x + 1) v₂ far (omega arith) in
      going.from_run b born ticks k s es cut (call.pin Work [] (At g)) (record s { work = Some g }) v₂ to (
        (active, idle),
        (
          (active, idle, low, free_slot, ap (λ y. y + 1) e, facts.unshut_at f s v st.holding g e low),
          tt,
        ),
      )
      (ap (λ y. erased (row.pinned Work g (row.looked y v))) e)
      (kept (record s { work = Some g }) v₂ refl refl refl st.tied.right st.tied.hold refl free hold_low (omega arith))
      refl refl (low, (let l = facts.number_seen f s v st.holding in omega arith)) (refl, (e, low))

  -- a pin, in the words of the code
  pub pins : (slot : Slot) (p : Pinned) → MayPin slot (actor_at f s v es cut) → IsNumber (stages f) p s.number
      → Step (call.pin slot [] p) (record s { hold = pinned_hold slot p s.hold; work = pinned_work slot p s.work })
  pins Hold (At g) free_slot n = pins_hold g n.0 n.1 free_slot
  pins Work (At g) free_slot n = pins_work g n.0 n.1 free_slot
  pins Hold Absent free_slot n = finds_none Hold n
  pins Work Absent free_slot n = finds_none Work n
  pins Hold Removed free_slot n = finds_removed Hold n
  pins Work Removed free_slot n = finds_removed Work n

  unpins_hold : (h : Option ℕ) → s.hold ≡ h → 0 < v.hold → Step (call.unpin Hold) (record s { hold = None })
  unpins_hold None e full = absurd (let a = st.tied.hold in let z = ap place e in omega arith)
  unpins_hold (Some g) e full = let at : v.hold ≡ g + 1 = st.tied.hold ∙ ap place e in
      let low = hold_low in let is = ap place e in let lg : g < length s.closed = let l = long in omega arith in
      let x = word_of w (g + 2) in let v₁ : View = counted (g + 2) x (row.unpinned Hold v) in
      let far : (j : ℕ) → (j ≡ g → ⊥) → pins_of s.hold s.work j ≡ pins_of None s.work j =
      λ j ne. ap (λ y. on j y (place s.work)) is ∙ sym (filled_else g j (place s.work) ne) in
      let near : pins_of s.hold s.work g ≡ pins_of None s.work g + 1 =
      ap (λ y. on g y (place s.work)) is ∙ filled_on g (place s.work) in
      let word = worlds.pin_get f s v long g lg in
      let to : run (file f) w (call.moves f w (call.unpin Hold)) ≡ world (record s { hold = None }) v₁ =
      ap (λ y. run (file f) w (by 0 (move.unpin Hold y) ∷ [])) (let z : v.hold - 1 ≡ g = omega arith in z)
      ∙ slots g lg None s.work (x - 1) v₁ far (omega arith) in
      going.from_run b born ticks k s es cut (call.unpin Hold) (record s { hold = None }) v₁ to
      (subst (λ y. Runs (file f) w (by 0 (move.unpin Hold y) ∷ [])) (let z : g ≡ v.hold - 1 = omega arith in
      z) ((active, free, at), tt))
      refl (kept (record s {
        hold =
            None;
      }) v₁ refl refl refl st.tied.right refl st.tied.work free (omega arith) work_low)
      refl refl tt tt

  unpins_work : (h : Option ℕ) → s.work ≡ h → 0 < v.work → Step (call.unpin Work) (record s { work = None })
  unpins_work None e full = absurd (let a = st.tied.work in let z = ap place e in omega arith)
  unpins_work (Some g) e full = let at : v.work ≡ g + 1 = st.tied.work ∙ ap place e in
      let low = work_low in let is = ap place e in let lg : g < length s.closed = let l = long in omega arith in
      let x = word_of w (g + 2) in let v₁ : View = counted (g + 2) x (row.unpinned Work v) in
      let far : (j : ℕ) → (j ≡ g → ⊥) → pins_of s.hold s.work j ≡ pins_of s.hold None j =
      λ j ne. ap (λ y. on j (place s.hold) y) is ∙ (let z = filled_else g j (place s.hold) ne in omega arith) in
      let near : pins_of s.hold s.work g ≡ pins_of s.hold None g + 1 =
      (let z = filled_on g (place s.hold) in let y = ap (λ y. on g (place s.hold) y) is in omega arith) in
      let word = worlds.pin_get f s v long g lg in
      let to : run (file f) w (call.moves f w (call.unpin Work)) ≡ world (record s { work = None }) v₁ =
      ap (λ y. run (file f) w (by 0 (move.unpin Work y) ∷ [])) (let z : v.work - 1 ≡ g = omega arith in z)
      ∙ slots g lg s.hold None (x - 1) v₁ far (omega arith) in
      going.from_run b born ticks k s es cut (call.unpin Work) (record s { work = None }) v₁ to
      (subst (λ y. Runs (file f) w (by 0 (move.unpin Work y) ∷ [])) (let z : g ≡ v.work - 1 = omega arith in
      z) ((active, free, at), tt))
      refl (kept (record s {
        work =
            None;
      }) v₁ refl refl refl st.tied.right st.tied.hold refl free hold_low (omega arith))
      refl refl tt tt

  pub unpins : (slot : Slot) → MayUnpin slot (actor_at f s v es cut)
      → Step (call.unpin slot) (record s { hold = freed_hold slot s.hold; work = freed_work slot s.work })
  unpins Hold full = unpins_hold s.hold refl full
  unpins Work full = unpins_work s.work refl full

  -- a close
  pub closes : (g : ℕ) (c : Closed) (shut : Bool) (p : ℕ) → shut ≡ get_or s.closed g false → p ≡ pins_of s.hold s.work g
      → p ≤ 2
      → c ≡ row.close_answer (9223372036854775808 * truth shut + p) → MayClose g (actor_at f s v es cut)
      → Step (call.close g c) (record s { closed = set s.closed g (shut_by c shut) })
  closes g c shut p bit pins few answer m = let lg : g < length s.closed = let l = long in let y = m.0 in omega arith in
      let x = word_of w (g + 2) in
      let word : x ≡ 9223372036854775808 * truth shut + p = worlds.pin_get f s v long g lg
      ∙ (ap (λ y. 9223372036854775808 * truth y + pins_of s.hold s.work g) (sym bit)
      ∙ ap (λ y. 9223372036854775808 * truth shut + y) (sym pins)) in
      let told : c ≡ row.close_answer x = answer ∙ sym (ap row.close_answer word) in
      let v₁ : View = counted (g + 2) x (row.close_view c g v) in
      let new : cond (eqb x 0) 9223372036854775808 x ≡ 9223372036854775808 * truth (shut_by c shut) + pins_of s.hold
      s.work g =
      ap (λ y. cond (eqb y 0) 9223372036854775808 y) word ∙ (close_word shut p few
      ∙ (ap (λ y. 9223372036854775808 * truth (shut_by y shut) + p) (sym answer)
      ∙ ap (λ y. 9223372036854775808 * truth (shut_by c shut) + y) pins)) in
      let to : run (file f) w (by 0 (move.close g) ∷ []) ≡ world (record s {
        closed =
            set s.closed g (shut_by c shut);
      }) v₁ =
      ap (λ y. acted (word_row (g + 2) (λ z. cond (eqb z 0) 9223372036854775808 z) (λ z. row.close_view y g)) x w 0)
      (sym told)
      ∙ worlds.pins_are f s v long s.hold s.work g (cond (eqb x 0) 9223372036854775808 x) (shut_by c shut) v₁ lg
      (λ j ne. refl) new in
      going.from_run b born ticks k s es cut (call.close g c) (record s {
        closed =
            set s.closed g (shut_by c shut);
      }) v₁ to
      ((active, idle, m.0, m.1), tt) (closed_sees c g (g + 2) x v)
      (closed_kept c g x) (length-set s.closed g (shut_by c shut)) refl
      (subst (λ y. FairClose g y (erased v)) (sym told) (fair_close g x (erased v)
      (facts.own_counted f s v st.holding g m.0) (facts.own_none f s v st.holding g m.0))) told
    where
      closed_kept : (c : Closed) (g x : ℕ)
          → Tied (record s { closed = set s.closed g (shut_by c shut) }) (counted (g + 2) x (row.close_view c g v))
          × IsReady f (counted (g + 2) x (row.close_view c g v))
      closed_kept Done g x =
          kept_all (record s {
            closed =
                set s.closed g (shut_by Done shut);
          }) (counted (g + 2) x (row.close_view Done g v)) refl refl refl refl refl refl refl refl refl free
      closed_kept (Pins n) g x =
          kept_all (record s {
            closed =
                set s.closed g (shut_by (Pins n) shut);
          }) (counted (g + 2) x (row.close_view (Pins n) g v)) refl refl refl refl refl refl refl refl refl free
      closed_kept Already g x =
          kept_all (record s {
            closed =
                set s.closed g (shut_by Already shut);
          }) (counted (g + 2) x (row.close_view Already g v)) refl refl refl refl refl refl refl refl refl free

  -- in the words of the code
  pub pins_to : (slot : Slot) (p : Pinned) (q : ℕ) (hold' work' : Option ℕ) → q ≡ stages f
      → MayPin slot (actor_at f s v es cut) → IsNumber q p s.number
      → hold' ≡ pinned_hold slot p s.hold → work' ≡ pinned_work slot p s.work
      → Step (call.pin slot [] p) (record s { hold = hold'; work = work' })
  pins_to slot p q hold' work' e free_slot n h k' =
      subst (λ x. Step (call.pin slot [] p) (record s { hold = x; work = work' })) (sym h)
      (subst (λ x. Step (call.pin slot [] p) (record s { hold = pinned_hold slot p s.hold; work = x })) (sym k')
      (pins slot p free_slot (subst (λ x. IsNumber x p s.number) e n)))

  pub unpins_to : (slot : Slot) (hold' work' : Option ℕ) → MayUnpin slot (actor_at f s v es cut)
      → hold' ≡ freed_hold slot s.hold
      → work' ≡ freed_work slot s.work → Step (call.unpin slot) (record s { hold = hold'; work = work' })
  unpins_to slot hold' work' full h k' =
      subst (λ x. Step (call.unpin slot) (record s { hold = x; work = work' })) (sym h)
      (subst (λ x. Step (call.unpin slot) (record s {
        hold = freed_hold slot s.hold;
        work =
            x;
      })) (sym k') (unpins slot full))

  pub number_top : s.number ≤ stages f + 1
  number_top = facts.number_top f s v st.holding

  pub closes_to : (g : ℕ) (c : Closed) (shut shut' : Bool) (p : ℕ) → shut ≡ get_or s.closed g shut
      → p ≡ pins_of s.hold s.work g → p ≤ 2
      → c ≡ row.close_answer (9223372036854775808 * truth shut + p) → MayClose g (actor_at f s v es cut)
      → shut' ≡ shut_by c shut
      → Step (call.close g c) (record s { closed = set s.closed g shut' })
  closes_to g c shut shut' p bit pins few answer m is =
      subst (λ x. Step (call.close g c) (record s { closed = set s.closed g x })) (sym is)
      (closes g c shut p (get_or_read s.closed g shut (let l = long in let y = m.0 in
      omega arith) bit false) pins few answer m)

  pub close_low : (g : ℕ) → MayClose g (actor_at f s v es cut) → g < length s.closed
  close_low g m = let l = long in let y = m.0 in omega arith
