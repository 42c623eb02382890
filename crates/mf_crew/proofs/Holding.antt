-- What a command does to the Hold slot of a file's actor, and the pins that its closes met.
use Rattle.std.proofs.Common.{◌≡◌, ℕ, ◌+◌, ◌<◌, ◌≤◌, Bool, true, false, List, [], ◌∷◌, ◌++◌, refl, sym}
use Rattle.std.proofs.Common.{ap, ◌∙◌, subst, arith, cond, ◌==◌, eq-eqb}
use Rattle.std.proofs.lemmas.Bool.{eqb-true}
use mathlib.Core.Logic.{dite}
use native.Mathlib.Decide.{ℕ_discrete}
use Rattle.mf_machine.specs.declared.answer.Closed.{Closed}
use Rattle.mf_machine.specs.declared.answer.Closed.TheVariants as closing
use Rattle.mf_machine.specs.declared.answer.Slot.{Slot}
use Rattle.mf_machine.specs.declared.answer.Slot.TheVariants.{Hold, Work}
use Rattle.mf_machine.specs.declared.answer.State.TheVariants as state
use Rattle.mf_machine.specs.declared.view.Made.{Made}
use Rattle.mf_machine.specs.declared.view.View.{View}
use Rattle.mf_machine.specs.Actors.{live}
use Rattle.mf_machine.specs.Answers.{refusals}
use Rattle.mf_machine.specs.Counts.{bit}
use Rattle.mf_machine.specs.Steps as row
use Rattle.mf_machine.specs.Words.{filled, number_of}
use Rattle.mf_machine.proofs.Lists.{bit_is, bit_not, bit_eq}
use Rattle.mf_lines.specs.declared.parts.Act.{Act}
use Rattle.mf_lines.specs.declared.parts.Act.TheVariants as act
use Rattle.mf_vault.specs.declared.answers.Got.TheVariants as got
use Rattle.mf_vault.specs.declared.answers.Pinned.{Pinned}
use Rattle.mf_vault.specs.declared.answers.Pinned.TheVariants.{At, Absent, Removed}
use Rattle.mf_vault.specs.Facts.{Facts, stages}
use Rattle.mf_vault.specs.Actor.{Actor, Call, did, seen, tried}
use Rattle.mf_vault.specs.Actor as call
use Rattle.mf_vault.specs.Conditions.{IsIdle, Leaves}
use Rattle.mf_vault.specs.Licence.{AreFair, did_all}
use Rattle.mf_vault.proofs.Growing.{tried_made}
use Rattle.mf_vault.proofs.Entering.{tried_right, tried_hold, tried_work}
use Rattle.mf_vault.proofs.Leaving.{did_both}
use Rattle.mf_convert.specs.declared.change.Change.{Change}
use Rattle.mf_convert.specs.declared.change.Change.TheVariants as change
use Rattle.mf_convert.proofs.Leaving.{creates_leaves, removes_leaves, converts_leaves}
use Rattle.mf_read.specs.declared.outcome.ReadOutcome.{ReadOutcome}
use Rattle.mf_read.specs.declared.outcome.ReadOutcome.TheVariants as read
use Rattle.mf_read.proofs.Leaving.{reads_leaves}
use Rattle.mf_repair.specs.declared.outcome.RepairOutcome.{RepairOutcome}
use Rattle.mf_repair.specs.declared.outcome.RepairOutcome.TheVariants as repaired
use Rattle.mf_repair.proofs.Leaving.{repairs_leaves}
use Rattle.mf_reclaim.specs.declared.outcome.ReclaimOutcome.{ReclaimOutcome}
use Rattle.mf_reclaim.specs.Reclaim as reclaim
use Rattle.mf_reclaim.specs.Reclaim.{Learns, IsReclaim, closes, discards, free_names, pins_from, Reclaims}
use Rattle.mf_reclaim.proofs.Leaving.{reclaims_leaves}
use Rattle.mf_client.specs.declared.done.Outcome.{Outcome}
use Rattle.mf_client.specs.declared.done.Outcome.TheVariants as outcome
use Rattle.mf_client.specs.Acts.{Comes, Pins}
use Rattle.mf_client.proofs.Went.{refused_reads}
use Rattle.mf_crew.specs.Tales.{Tale, no_tale, change_tale, read_tale, repair_tale, reclaim_tale, outcome_tale}
use Rattle.mf_crew.specs.Tales.{pins_told, hold_by}
use Rattle.mf_crew.proofs.Closing.{closings_in, closings_of, creates_open, removes_open, converts_open, repairs_open}
use Rattle.mf_crew.proofs.Closing.{reads_open, reclaims_closed}

-- ---- refusals only grow

pub refusals_grow : (f : Facts) (c : Call) (v : View) (g n own : ℕ)
    → refusals g n own v.own.pinned ≤ refusals g n own (seen f c v).own.pinned
refusals_grow f (call.pin slot gs p) v g n own =
    let e = ap (refusals g n own) (tried_refusals f slot gs p v) in omega arith
  where
    tried_refusals : (f : Facts) (slot : Slot) (gs : List ℕ) (p : Pinned) (v : View)
        → (tried f slot gs p v).own.pinned ≡ v.own.pinned
    tried_refusals f Hold [] (At g) v = refl
    tried_refusals f Work [] (At g) v = refl
    tried_refusals f slot [] Absent v = refl
    tried_refusals f slot [] Removed v = refl
    tried_refusals f slot (g ∷ gs) p v = tried_refusals f slot gs p (row.missed g (row.looked (g + 1) v))
refusals_grow f (call.unpin Hold) v g n own = omega arith
refusals_grow f (call.unpin Work) v g n own = omega arith
refusals_grow f (call.begin true) v g n own = omega arith
refusals_grow f (call.begin false) v g n own = omega arith
refusals_grow f (call.probe x state.Unborn) v g n own = omega arith
refusals_grow f (call.probe x state.Here) v g n own = omega arith
refusals_grow f (call.probe x (state.Lost l)) v g n own = omega arith
refusals_grow f (call.probe x (state.Away s)) v g n own = omega arith
refusals_grow f (call.close h closing.Done) v g n own = omega arith
refusals_grow f (call.close h (closing.Pins k)) v g n own = omega arith
refusals_grow f (call.close h closing.Already) v g n own = omega arith
refusals_grow f (call.discard x true) v g n own = omega arith
refusals_grow f (call.discard x false) v g n own = omega arith
refusals_grow f (call.get x (got.Here c)) v g n own = omega arith
refusals_grow f (call.get x (got.Lost l)) v g n own = omega arith
refusals_grow f (call.get x (got.Away s)) v g n own = omega arith
refusals_grow f (call.get x got.Memory) v g n own = omega arith
refusals_grow f (call.lose x l true) v g n own = omega arith
refusals_grow f (call.lose x l false) v g n own = omega arith
refusals_grow f c v g n own = omega arith

pub all_refusals_grow : (cs : List Call) (a : Actor) (g n own : ℕ)
    → refusals g n own a.view.own.pinned ≤ refusals g n own (did_all cs a).view.own.pinned
all_refusals_grow [] a g n own = omega arith
all_refusals_grow (c ∷ cs) a g n own =
    let one = refusals_grow a.facts c a.view g n own in
    let rest = all_refusals_grow cs (did c a) g n own in omega arith

-- ---- the closes of a reclaim

-- a close that was refused is entered with the pins of the Hold slot, where the Work slot is free
refused_here : (g k : ℕ) (v : View) → v.work ≡ 0
    → 0 < refusals g k (bit v.hold (filled g)) (row.closed_pins g k v).own.pinned
refused_here g k v free =
    let work : bit v.work (g + 1) ≡ 0 = bit_not v.work (g + 1) (λ e. omega arith) in
    let own : live g v ≡ bit v.hold (g + 1) = omega arith in
    let a : cond (g == g) (cond (k == k) (bit (live g v) (bit v.hold (g + 1))) 0) 0 ≡ 1 =
    (λ i. cond (eq-eqb g g refl i) (cond (eq-eqb k k refl i) (bit (live g v) (bit v.hold (g + 1))) 0) 0)
    ∙ bit_is (live g v) (bit v.hold (g + 1)) own in omega arith

-- each refusal that closes name is entered so, and met a pin at least
pub closes_refuse : (h : ℕ) (answers : List Closed) (rest : List Call) (a : Actor) (g n : ℕ) → a.view.work ≡ 0
    → AreFair (closes h answers ++ rest) a → 0 < pins_told (pins_from h answers) g n
    → (0 < refusals g n (bit a.view.hold (filled g)) (did_all (closes h answers ++ rest) a).view.own.pinned) × (0 < n)
closes_refuse h [] rest a g n free fair low = absurd (omega arith)
closes_refuse h (closing.Done ∷ answers) rest a g n free fair low =
    closes_refuse (h + 1) answers rest (did (call.close h closing.Done) a) g n free fair.1 low
closes_refuse h (closing.Already ∷ answers) rest a g n free fair low =
    closes_refuse (h + 1) answers rest (did (call.close h closing.Already) a) g n free fair.1 low
closes_refuse h (closing.Pins k ∷ answers) rest a g n free fair low =
    let next = did (call.close h (closing.Pins k)) a in
    dite (ℕ_discrete (cond (h == g) (bit k n) 0) 0)
    (λ none. closes_refuse (h + 1) answers rest next g n free fair.1 (omega arith))
    (λ some.
    let same = both (h == g) refl some in
    let here : g ≡ h = sym same.0 in
    let count : n ≡ k = sym same.1 in
    let was = refused_here h k a.view free in
    let grown = all_refusals_grow (closes (h + 1) answers ++ rest) next h k (bit a.view.hold (filled h)) in
    let entered : 0 < refusals h k (bit a.view.hold (filled h))
    (did_all (closes (h + 1) answers ++ rest) next).view.own.pinned = omega arith in
    let there = subst (λ (z : ℕ). 0 < refusals z k (bit a.view.hold (filled z))
    (did_all (closes (h + 1) answers ++ rest) next).view.own.pinned) (sym here) entered in (
      subst (λ (z : ℕ). 0 < refusals g z (bit a.view.hold (filled g))
          (did_all (closes (h + 1) answers ++ rest) next).view.own.pinned) (sym count) there,
      subst (λ (z : ℕ). 0 < z) (sym count) fair.0.0,
    ))
  where
    both : (b : Bool) → (h == g) ≡ b → (cond b (bit k n) 0 ≡ 0 → ⊥) → (h ≡ g) × (k ≡ n)
    both true e some = (eqb-true h g e, bit_eq k n (omega arith))
    both false e some = absurd (some refl)

-- ---- what a command leaves of the slots, and the refusals that it names

-- an idle actor stays idle, with this place of its Hold slot; each refused close of the tale is entered with the pins
-- that the slot had before; and as many generations are closed as it tells
pub record More (next : ℕ) (t : Tale) (a b : Actor) : Type 0 where
  pub hold : IsIdle a → b.view.hold ≡ next
  pub idle : IsIdle a → IsIdle b
  pub pinned : IsIdle a → (g n : ℕ) → 0 < t.pinned g n
      → (0 < refusals g n (bit a.view.hold (filled g)) b.view.own.pinned) × (0 < n)
  pub closed : closings_of (stages a.facts) b.view ≡ closings_of (stages a.facts) a.view + t.closed

-- nothing is closed
none_closed : (t : Tale) (a b : Actor) → t.closed ≡ 0 → b.view.made.closings ≡ a.view.made.closings
    → closings_of (stages a.facts) b.view ≡ closings_of (stages a.facts) a.view + t.closed
none_closed t a b none keeps = let e = ap (closings_in (stages a.facts)) keeps in omega arith

pub leaves_more : {t : Tale} {a b : Actor} → ((g n : ℕ) → t.pinned g n ≡ 0) → t.closed ≡ 0
    → (IsIdle a → Leaves a b) → b.view.made.closings ≡ a.view.made.closings → More a.view.hold t a b
leaves_more {t = t} {a = a} {b = b} none closes leaves keeps = record {
  closed = none_closed t a b closes keeps;
  hold = λ idle. (leaves idle).hold;
  idle = λ idle. (leaves idle).idle;
  pinned = λ idle g n low. let z = none g n in absurd (omega arith);
}

pub still_leaves : {a b : Actor} → b ≡ a → IsIdle a → Leaves a b
still_leaves {a = a} e idle =
    subst (Leaves a) (sym e) (record { idle = idle; facts = refl; hold = refl; cut = refl })

pub still_open : {a b : Actor} → b ≡ a → b.view.made.closings ≡ a.view.made.closings
still_open e = ap (λ (z : Actor). z.view.made.closings) e

-- ---- a reclaim

fair_behind : (cs ds : List Call) (a : Actor) → AreFair (cs ++ ds) a → AreFair ds (did_all cs a)
fair_behind [] ds a fair = fair
fair_behind (c ∷ cs) ds a fair = fair_behind cs ds (did c a) fair.1

-- who has learnt the number has the slots as before
learnt : {f : Facts} {k : ℕ} {first : List Call} → Learns f k first → (a : Actor) → IsIdle a
    → ((did_all first a).view.hold ≡ a.view.hold) × ((did_all first a).view.work ≡ 0)
learnt (reclaim.published gs g) a idle = (tried_hold a.facts gs (At g) a.view, refl)
learnt (reclaim.removed gs) a idle =
    (tried_hold a.facts gs Removed a.view, tried_work a.facts gs Removed a.view ∙ idle.work)

reclaim_refuses : {f : Facts} {o : ReclaimOutcome} {cs : List Call} (a : Actor) → IsIdle a → IsReclaim f o cs
    → AreFair cs a → (g n : ℕ) → 0 < (reclaim_tale o).pinned g n
    → (0 < refusals g n (bit a.view.hold (filled g)) (did_all cs a).view.own.pinned) × (0 < n)
reclaim_refuses a idle reclaim.no_memory fair g n low = absurd (omega arith)
reclaim_refuses a idle (reclaim.absent gs) fair g n low = absurd (omega arith)
reclaim_refuses {f = f} a idle (reclaim.reclaimed first answers changed learns long) fair g n low =
    let last = discards (free_names f.book answers) changed in
    let rest = closes 0 answers ++ last in
    let left = learnt learns a idle in
    let met = closes_refuse 0 answers last (did_all first a) g n left.1 (fair_behind first rest a fair) low in
    subst (λ (z : Actor). (0 < refusals g n (bit a.view.hold (filled g)) z.view.own.pinned) × (0 < n))
    (sym (did_both first rest a))
    (subst (λ (h : ℕ). (0 < refusals g n (bit h (filled g)) (did_all rest (did_all first a)).view.own.pinned) × (0 < n))
    left.0 met)

reclaims_more : {o : ReclaimOutcome} {a b : Actor} → Reclaims o a b → More a.view.hold (reclaim_tale o) a b
reclaims_more {a = a} x = record {
  hold = λ idle. (reclaims_leaves x idle).hold;
  idle = λ idle. (reclaims_leaves x idle).idle;
  pinned = λ idle g n low.
      subst (λ (z : Actor). (0 < refusals g n (bit a.view.hold (filled g)) z.view.own.pinned) × (0 < n))
      (sym x.does.becomes) (reclaim_refuses a idle x.licence x.does.fair g n low);
  closed = reclaims_closed x;
}

-- ---- a pin of the Hold slot

-- the place of the slot behind it
abbrev hold_of_pin : Pinned → ℕ → ℕ
hold_of_pin (At g) hold = filled g
hold_of_pin Absent hold = hold
hold_of_pin Removed hold = hold

hold_tried : (f : Facts) (gs : List ℕ) (p : Pinned) (v : View)
    → (tried f Hold gs p v).hold ≡ hold_of_pin p v.hold
hold_tried f [] (At g) v = refl
hold_tried f [] Absent v = refl
hold_tried f [] Removed v = refl
hold_tried f (g ∷ gs) p v = hold_tried f gs p (row.missed g (row.looked (number_of g) v))

work_tried : (f : Facts) (gs : List ℕ) (p : Pinned) (v : View) → (tried f Hold gs p v).work ≡ v.work
work_tried f [] (At g) v = refl
work_tried f [] Absent v = refl
work_tried f [] Removed v = refl
work_tried f (g ∷ gs) p v = work_tried f gs p (row.missed g (row.looked (number_of g) v))

pins_more : {t : Tale} (p : Pinned) {a b : Actor} → ((g n : ℕ) → t.pinned g n ≡ 0) → t.closed ≡ 0 → Pins p a b
    → More (hold_of_pin p a.view.hold) t a b
pins_more {t = t} p {a = a} {b = b} none closes (free, (gs, does)) = record {
  closed = none_closed t a b closes (ap (λ (z : Actor). z.view.made.closings) does.becomes
      ∙ ap (λ (m : Made). m.closings) (tried_made a.facts Hold gs p a.view));
  hold = λ idle. ap (λ (z : Actor). z.view.hold) does.becomes ∙ hold_tried a.facts gs p a.view;
  idle = λ idle. subst IsIdle (sym does.becomes) (record {
    right = tried_right a.facts Hold gs p a.view ∙ idle.right;
    work = work_tried a.facts gs p a.view ∙ idle.work;
  });
  pinned = λ idle g n low. let z = none g n in absurd (omega arith);
}

-- ---- a command

pub change_names_none : (q : ℕ) (c : Change) (g n : ℕ) → (change_tale q c).pinned g n ≡ 0
change_names_none q change.Created g n = refl
change_names_none q c g n = refl

read_names_none : (o : ReadOutcome) (g n : ℕ) → (read_tale o).pinned g n ≡ 0
read_names_none read.Absent g n = refl
read_names_none o g n = refl

repair_names_none : (o : RepairOutcome) (g n : ℕ) → (repair_tale o).pinned g n ≡ 0
repair_names_none repaired.Busy g n = refl
repair_names_none o g n = refl

pub change_closes_none : (q : ℕ) (c : Change) → (change_tale q c).closed ≡ 0
change_closes_none q change.Created = refl
change_closes_none q c = refl

read_closes_none : (o : ReadOutcome) → (read_tale o).closed ≡ 0
read_closes_none read.Absent = refl
read_closes_none o = refl

repair_closes_none : (o : RepairOutcome) → (repair_tale o).closed ≡ 0
repair_closes_none repaired.Busy = refl
repair_closes_none o = refl

pub comes_more : (q : ℕ) (x : Act) (o : Outcome) {a b : Actor} → Comes x o a b
    → More (hold_by o a.view.hold) (outcome_tale q o) a b
comes_more q (act.Create file) (outcome.Change c) x = leaves_more (change_names_none q c) (change_closes_none q c)
    (creates_leaves x) (creates_open x)
comes_more q (act.Create file) outcome.Memory x = leaves_more (λ g n. refl) refl (still_leaves x) (still_open x)
comes_more q (act.Create file) o x = absurd x
comes_more q (act.Read file away) (outcome.Bytes g count from digest) (bytes, x, long, is) =
    leaves_more (λ g n. refl) refl (reads_leaves (read.Bytes g bytes from) x) (reads_open (read.Bytes g bytes from) x)
comes_more q (act.Read file away) (outcome.Refused r) {a = a} {b = b} x =
    leaves_more (read_names_none r) (read_closes_none r) (reads_leaves r (refused_reads r a b x))
    (reads_open r (refused_reads r a b x))
comes_more q (act.Read file away) o x = absurd x
comes_more q (act.Repair file away) (outcome.Repair r) x = leaves_more (repair_names_none r) (repair_closes_none r)
    (repairs_leaves x) (repairs_open x)
comes_more q (act.Repair file away) o x = absurd x
comes_more q (act.Convert file away stop) (outcome.Change c) x =
    leaves_more (change_names_none q c) (change_closes_none q c) (converts_leaves x) (converts_open x)
comes_more q (act.Convert file away stop) o x = absurd x
comes_more q (act.Reclaim file) (outcome.Reclaim r) x = reclaims_more x
comes_more q (act.Reclaim file) o x = absurd x
comes_more q (act.Remove file) (outcome.Change c) x = leaves_more (change_names_none q c) (change_closes_none q c)
    (removes_leaves x) (removes_open x)
comes_more q (act.Remove file) o x = absurd x
comes_more q (act.Hold file) (outcome.Held g) x = pins_more (At g) (λ g n. refl) refl x
comes_more q (act.Hold file) outcome.HoldAbsent x = pins_more Absent (λ g n. refl) refl x
comes_more q (act.Hold file) outcome.HoldRemoved x = pins_more Removed (λ g n. refl) refl x
comes_more q (act.Hold file) (outcome.AlreadyHeld g) x = leaves_more (λ g n. refl) refl (still_leaves x.1) (still_open x.1)
comes_more q (act.Hold file) o x = absurd x
comes_more q (act.Release file) (outcome.Released g) {a = a} {b = b} x = record {
  closed = none_closed no_tale a b refl (ap (λ (z : Actor). z.view.made.closings) x.1.becomes);
  hold = λ idle. ap (λ (z : Actor). z.view.hold) x.1.becomes;
  idle = λ idle. subst IsIdle (sym x.1.becomes) (record { right = idle.right; work = idle.work });
  pinned = λ idle g n low. absurd (omega arith);
}
comes_more q (act.Release file) outcome.NotHeld x = leaves_more (λ g n. refl) refl (still_leaves x.1) (still_open x.1)
comes_more q (act.Release file) o x = absurd x
comes_more q (act.Lose server) o x = absurd x
comes_more q act.Sweep o x = absurd x
