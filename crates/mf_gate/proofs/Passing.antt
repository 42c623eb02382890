-- The steps of the gate pass keep the table's rule.
use Rattle.std.proofs.Common.{◌≡◌, ℕ, ◌+◌, ◌-◌, ◌%◌, ◌<◌, ◌≤◌, cond, eqb, sym, refl, subst, arith}
use prog.Atomic.{either}
use Rattle.mf_machine.specs.declared.answer.Slot.{Slot}
use Rattle.mf_machine.specs.declared.answer.Slot.TheVariants.{Hold, Work}
use Rattle.mf_machine.specs.declared.view.View.{View}
use Rattle.mf_machine.specs.Actors.{IsPinnedOn, live}
use Rattle.mf_machine.specs.Counts.{times}
use Rattle.mf_machine.specs.Moves as move
use Rattle.mf_machine.specs.Steps.{MayLook, MayPin, MayUnpin, MayClose, MayBegin, MayEnd, MayPublish}
use Rattle.mf_machine.specs.Steps as row
use Rattle.mf_machine.specs.Sums as sums
use Rattle.mf_machine.specs.Worlds.{Row, read, word_of}
use Rattle.mf_machine.proofs.Lists.{bit_is}
use Rattle.mf_machine.proofs.Pins.{few_pins}
use Rattle.mf_machine.proofs.Totals.{total_at}
use Rattle.mf_gate.specs.declared.known.About.{About}
use Rattle.mf_machine.proofs.Tells as tells
use Rattle.mf_gate.specs.Table.{facts_of, file_of, Met, Mine, Takes}
use Rattle.mf_gate.proofs.Rowed.{either_is, stays_put}

-- a slot that is pinned on g
pinned : (slot : Slot) (g : ℕ) (v : View) → IsPinnedOn g slot v → 0 < live g v
pinned Hold g v p = let z = bit_is v.hold (g + 1) p in omega arith
pinned Work g v p = let z = bit_is v.work (g + 1) p in omega arith

pub pinned_below : (slot : Slot) (g q : ℕ) (v : View) → v.hold ≤ q → v.work ≤ q → IsPinnedOn g slot v → g < q
pinned_below Hold g q v hold work p = omega arith
pinned_below Work g q v hold work p = omega arith

module _ (k : About) (slots id : ℕ) (me : Mine) (e : me.0.about ≡ k) where
  -- what is so of the file that the seat knows is so of this one
  at_key : (r : Row) (i : ℕ) (h : ℕ → ℕ) → Takes me.0.about r slots id me i h → Takes k r slots id me i h
  at_key r i h = subst (λ (q : About). Takes q r slots id me i h) e

  pub looks : MayLook me.0.view → Takes k row.look_row slots id me 0 (λ x. x)
  looks may = at_key row.look_row 0 (λ x. x) (stays_put slots id me move.look 0 (λ x. x) row.looked (λ x. x)
      (λ w a. refl) (λ w a. subst MayLook (sym a) may) (λ w h at. refl)
      (λ n l x _ q _ e. absurd (omega arith)))

  pub pins : (slot : Slot) (g : ℕ) → MayPin (file_of me.0.about) slot g me.0.view
      → Takes k (row.pin_row slot g) slots id me (g + 2) (λ x. (x + 1) % 18446744073709551616)
  pins slot g may = let f = file_of me.0.about in
      at_key (row.pin_row slot g) (g + 2) (λ x. (x + 1) % 18446744073709551616)
      (stays_put slots id me (move.pin slot g) (g + 2) (λ x. x + 1) (λ x. row.pin_view (row.pin_answer x) slot g)
      (λ x. (x + 1) % 18446744073709551616) (λ w a. refl) (λ w a. subst (MayPin f slot g) (sym a) may)
      (λ w h at. let few = few_pins f (facts_of me.0.about).opening (read f w) g h.holding.ruled in
      let p = h.holding.ruled.words.pins g may.2 in let word = p.word in let once = p.once in omega arith)
      (λ n l x _ q _ e. let low = may.2 in absurd (omega arith)))

  pub unpins : (slot : Slot) (g : ℕ) → me.0.view.hold ≤ (file_of me.0.about).stages
      → me.0.view.work ≤ (file_of me.0.about).stages → MayUnpin (file_of me.0.about) slot g me.0.view
      → Takes k (row.unpin_row slot g) slots id me (g + 2)
      (λ x. (x + (18446744073709551616 - 1)) % 18446744073709551616)
  unpins slot g hold work may = let f = file_of me.0.about in let q = pinned slot g me.0.view may.2 in
      let below = pinned_below slot g f.stages me.0.view hold work may.2 in
      at_key (row.unpin_row slot g) (g + 2) (λ x. (x + (18446744073709551616 - 1)) % 18446744073709551616)
      (stays_put slots id me (move.unpin slot g) (g + 2) (λ x. x - 1) (λ x. row.unpinned slot)
      (λ x. (x + (18446744073709551616 - 1)) % 18446744073709551616) (λ w a. refl)
      (λ w a. subst (MayUnpin f slot g) (sym a) may)
      (λ w h at. let few = few_pins f (facts_of me.0.about).opening (read f w) g h.holding.ruled in
      let mine = total_at (sums.pins g) w.views id me.0.view at in
      let p = h.holding.ruled.words.pins g below in let word = p.word in let once = p.once in omega arith)
      (λ n l x _ q _ e. absurd (omega arith)))

  pub closes : (g : ℕ) → MayClose (file_of me.0.about) g me.0.view
      → Takes k (row.close_row g) slots id me (g + 2) (λ x. either (eqb x 0) 9223372036854775808 x)
  closes g may = let f = file_of me.0.about in
      at_key (row.close_row g) (g + 2) (λ x. either (eqb x 0) 9223372036854775808 x)
      (stays_put slots id me (move.close g) (g + 2) (λ x. cond (eqb x 0) 9223372036854775808 x)
      (λ x. row.close_view (row.close_answer x) g) (λ x. either (eqb x 0) 9223372036854775808 x)
      (λ w a. refl) (λ w a. subst (MayClose f g) (sym a) may)
      (λ w h at. either_is (eqb (word_of w (g + 2)) 0) 9223372036854775808
      (word_of w (g + 2)))
      (λ n l x _ q _ e. let low = may.2 in absurd (omega arith)))

  pub begins : MayBegin me.0.view → Takes k row.begin_row slots id me 1 (λ x. either (eqb x 0) 1 x)
  begins may = at_key row.begin_row 1 (λ x. either (eqb x 0) 1 x)
      (stays_put slots id me move.begin 1 (λ x. cond (eqb x 0) 1 x)
      (λ x. row.begin_view (row.begin_answer x)) (λ x. either (eqb x 0) 1 x)
      (λ w a. refl) (λ w a. subst MayBegin (sym a) may)
      (λ w h at. either_is (eqb (word_of w 1) 0) 1
      (word_of w 1))
      (λ n l x _ q _ e. absurd (omega arith)))

  pub ends : MayEnd me.0.view → Takes k row.end_row slots id me 1 (λ x. 0)
  ends may = at_key row.end_row 1 (λ x. 0) (stays_put slots id me move.end 1 (λ x. 0) (λ x. row.ended) (λ x. 0)
      (λ w a. refl) (λ w a. subst MayEnd (sym a) may) (λ w h at. refl)
      (λ n l x _ q _ e. absurd (omega arith)))

  pub publishes : (next : ℕ) → MayPublish (file_of me.0.about) next me.0.view
      → Takes k (row.publish_row next) slots id me 0 (λ x. next)
  publishes next may = let f = file_of me.0.about in at_key (row.publish_row next) 0 (λ x. next)
      (stays_put slots id me (move.publish next) 0 (λ x. next) (λ x. row.published next) (λ x. next)
      (λ w a. refl) (λ w a. subst (MayPublish f next) (sym a) may) (λ w h at. refl)
      (λ n l x _ q _ e. absurd (omega arith)))

-- what the value met is
module _ (k : About) (v : View) where
  pub looked : (x : ℕ) → Met k v 0 x → (v.seen.number ≤ x) × (x ≤ (file_of k).stages + 1)
  looked x m =
      let t = tells.looked_range (file_of k) (facts_of k).opening (read (file_of k) m.state) m.kept.holding.ruled
      m.id v m.at in subst (λ (y : ℕ). (v.seen.number ≤ y) × (y ≤ (file_of k).stages + 1)) m.word t

  pub beyond : (x : ℕ) → Met k v 0 x → (g : ℕ) → g < (file_of k).stages → 0 < times g v.seen.shut → g + 1 < x
  beyond x m g low shut = let t = tells.looked_beyond (file_of k) (facts_of k).opening (read (file_of k) m.state)
      m.kept.holding.ruled m.id v m.at g low shut in subst (λ (y : ℕ). g + 1 < y) m.word t

  pub few : (g x : ℕ) → Met k v (g + 2) x → g < (file_of k).stages → x < 9223372036854775808 → x ≤ 2147483648
  few g x m low = subst (λ (y : ℕ). y < 9223372036854775808 → y ≤ 2147483648) m.word
      (tells.pins_low (file_of k) (facts_of k).opening (read (file_of k) m.state) m.kept.holding.ruled g low)
