-- What the calls of a command on one file say of its outcome.
use Rattle.std.proofs.Common.{◌≡◌, ℕ, ◌+◌, ◌<◌, ◌≤◌, Bool, true, false, List, [], ◌∷◌, ◌++◌, refl, sym, ap}
use Rattle.std.proofs.Common.{subst, arith, inl, inr}
use Rattle.mf_machine.specs.declared.answer.Slot.TheVariants.{Hold, Work}
use Rattle.mf_machine.specs.Answers as said
use Rattle.mf_machine.specs.Counts.{bit}
use Rattle.mf_lines.specs.declared.parts.Act.{Act}
use Rattle.mf_lines.specs.declared.parts.Act.TheVariants as act
use Rattle.mf_vault.specs.declared.answers.Pinned.{Pinned}
use Rattle.mf_vault.specs.declared.answers.Pinned.TheVariants as pinned
use Rattle.mf_vault.specs.Facts.{Facts, stages}
use Rattle.mf_vault.specs.Actor.{Actor, Call}
use Rattle.mf_vault.specs.Actor as call
use Rattle.mf_vault.specs.Gains.{beside, publishes, sum_calls}
use Rattle.mf_vault.specs.Licence.{Does}
use Rattle.mf_vault.proofs.Doing.{same}
use Rattle.mf_convert.specs.declared.change.Change.{Change}
use Rattle.mf_convert.specs.Create as create
use Rattle.mf_convert.specs.Create.{IsCreate, first_names}
use Rattle.mf_convert.specs.Remove as remove
use Rattle.mf_convert.specs.Remove.{IsRemove}
use Rattle.mf_convert.specs.Convert as convert
use Rattle.mf_convert.specs.Convert.{IsCut, IsConversion, IsConvert, whole}
use Rattle.mf_read.specs.declared.outcome.ReadOutcome.{ReadOutcome}
use Rattle.mf_read.specs.declared.outcome.ReadOutcome.TheVariants as read
use Rattle.mf_read.specs.Reading.{IsThrough, IsRead}
use Rattle.mf_repair.specs.declared.outcome.RepairOutcome.{RepairOutcome}
use Rattle.mf_repair.specs.Repair as repair
use Rattle.mf_repair.specs.Repair.{IsEnd, IsRepairOf, IsRepair}
use Rattle.mf_reclaim.specs.declared.outcome.ReclaimOutcome.{ReclaimOutcome}
use Rattle.mf_reclaim.specs.Reclaim as reclaim
use Rattle.mf_reclaim.specs.Reclaim.{Learns, IsReclaim, closes, discards, free_names}
use Rattle.mf_client.specs.declared.done.Outcome.{Outcome}
use Rattle.mf_client.specs.declared.done.Outcome.TheVariants as outcome
use Rattle.mf_client.specs.Acts.{Comes, Pins}
use Rattle.mf_client.proofs.Went.{refused_reads}
use Rattle.mf_crew.specs.Tales.{Tale, no_tale, change_tale, read_tale, repair_tale, reclaim_tale, outcome_tale}
use Rattle.mf_crew.specs.Tales.{takes_right}
use Rattle.mf_crew.proofs.Counting.{sum_append, absents, AreMute, mute_all, whole_mute, cut_mute}
use Rattle.mf_crew.proofs.Counting.{create_probes_mute, brings_mute, read_mute, repair_mute, closes_silent, Silent}
use Rattle.mf_crew.proofs.Counting.{discards_mute}

-- calls say what a tale has; and they have a begin only where the right was taken
pub record Fits (f : Facts) (t : Tale) (took : Bool) (cs : List Call) : Type 0 where
  pub published : (m : ℕ) → sum_calls (publishes m) cs ≡ t.published m
  pub refused : t.refused ≤ sum_calls (beside f said.refused) cs
  pub absent : t.absent ≤ sum_calls absents cs
  pub begun : 0 < sum_calls (beside f said.begun) cs → took ≡ true

-- calls on chunks
pub mute_fits : (f : Facts) (took : Bool) (cs : List Call) → AreMute cs → Fits f no_tale took cs
mute_fits f took cs q = let s = mute_all f cs q in record {
  published = s.published;
  refused = omega arith;
  absent = omega arith;
  begun = λ low. let z = s.begun in absurd (omega arith);
}

-- calls on chunks, between others, publish and begin nothing
between : (h : Call → ℕ) (first inner last : List Call) → sum_calls h inner ≡ 0
    → sum_calls h (first ++ (inner ++ last)) ≡ sum_calls h first + sum_calls h last
between h first inner last none =
    let a = sum_append h first (inner ++ last) in let b = sum_append h inner last in omega arith

-- ---- changes

create_fits : (q : ℕ) {f : Facts} {o : Change} {cs : List Call} → IsCreate f o cs
    → Fits f (change_tale q o) (takes_right (outcome.Change o)) cs
create_fits q create.busy = record {
  published = λ m. omega arith;
  refused = omega arith;
  absent = omega arith;
  begun = λ low. absurd (omega arith);
}
create_fits q (create.was_there gs g) = record {
  published = λ m. omega arith;
  refused = omega arith;
  absent = omega arith;
  begun = λ low. refl;
}
create_fits q (create.was_removed gs) = record {
  published = λ m. omega arith;
  refused = omega arith;
  absent = omega arith;
  begun = λ low. refl;
}
create_fits q (create.no_memory gs) = record {
  published = λ m. omega arith;
  refused = omega arith;
  absent = omega arith;
  begun = λ low. refl;
}
create_fits q {f = f} (create.created gs ss long) = record {
  published = λ m.
      let xs = create.probes (first_names f) ss in
      let ys = create.brings (first_names f) ss in
      let a = (mute_all f xs (create_probes_mute (first_names f) ss)).published m in
      let b = (mute_all f ys (brings_mute (first_names f) ss)).published m in
      let c = sum_append (publishes m) xs (ys ++ (call.publish 1 ∷ call.end ∷ [])) in
      let d = sum_append (publishes m) ys (call.publish 1 ∷ call.end ∷ []) in omega arith;
  refused = omega arith;
  absent = omega arith;
  begun = λ low. refl;
}

remove_fits : (q : ℕ) {f : Facts} {o : Change} {cs : List Call} → stages f ≡ q → IsRemove f o cs
    → Fits f (change_tale q o) (takes_right (outcome.Change o)) cs
remove_fits q e remove.busy = record {
  published = λ m. omega arith;
  refused = omega arith;
  absent = omega arith;
  begun = λ low. absurd (omega arith);
}
remove_fits q e (remove.absent gs) = record {
  published = λ m. omega arith;
  refused = omega arith;
  absent = omega arith;
  begun = λ low. refl;
}
remove_fits q e (remove.was_removed gs) = record {
  published = λ m. omega arith;
  refused = omega arith;
  absent = omega arith;
  begun = λ low. refl;
}
remove_fits q {f = f} e (remove.removed_now gs g) = record {
  published = λ m. let same : bit (stages f + 1) m ≡ bit (q + 1) m = ap (λ k. bit (k + 1) m) e in omega arith;
  refused = omega arith;
  absent = omega arith;
  begun = λ low. refl;
}

-- what ends a conversion that is cut tells nothing, and the right was taken
cut_tale : (q : ℕ) {f : Facts} {g : ℕ} {due done : List Call} {o : Change} → IsCut f g due o done
    → (change_tale q o ≡ no_tale) × (takes_right (outcome.Change o) ≡ true)
cut_tale q (convert.stopped c due made) = (refl, refl)
cut_tale q (convert.away_probed x s due server) = (refl, refl)
cut_tale q (convert.away_got x o due server) = (refl, refl)
cut_tale q (convert.lost_probed x s due line h) = (refl, refl)
cut_tale q (convert.lost_got x o due line) = (refl, refl)
cut_tale q (convert.no_memory due) = (refl, refl)
cut_tale q (convert.not_shared x o due) = (refl, refl)
cut_tale q (convert.later c due o done cut) = cut_tale q cut

conversion_fits : (q : ℕ) {f : Facts} {g : ℕ} {o : Change} {done : List Call} (gs : List ℕ) → IsConversion f g o done
    → Fits f (change_tale q o) (takes_right (outcome.Change o))
    (call.begin true ∷ call.pin Work gs (pinned.At g) ∷ (done ++ call.unpin Work ∷ call.end ∷ []))
conversion_fits q {f = f} {g = g} gs (convert.converted states made on) = record {
  published = λ m.
      let xs = whole f g states in
      let ys = call.publish (g + 2) ∷ [] in
      let zs = call.unpin Work ∷ call.end ∷ [] in
      let a = (mute_all f xs (whole_mute f g states)).published m in
      let b = sum_append (publishes m) xs ys in
      let c = sum_append (publishes m) (xs ++ ys) zs in
      let two : g + 2 ≡ g + 1 + 1 = omega arith in
      let same : bit (g + 2) m ≡ bit (g + 1 + 1) m = ap (λ k. bit k m) two in omega arith;
  refused = omega arith;
  absent = omega arith;
  begun = λ low. refl;
}
conversion_fits q {f = f} {g = g} gs (convert.cut states o done on is) =
    let t = cut_tale q is in
    subst (λ (u : Tale). Fits f u (takes_right (outcome.Change o))
    (call.begin true ∷ call.pin Work gs (pinned.At g) ∷ (done ++ call.unpin Work ∷ call.end ∷ []))) (sym t.0) (record {
      published = λ m.
          let a = (mute_all f done (cut_mute states is)).published m in
          let b = sum_append (publishes m) done (call.unpin Work ∷ call.end ∷ []) in omega arith;
      refused = omega arith;
      absent = omega arith;
      begun = λ low. t.1;
    })

pub convert_fits : (q : ℕ) {f : Facts} {upto : ℕ} {o : Change} {cs : List Call} → IsConvert f upto o cs
    → Fits f (change_tale q o) (takes_right (outcome.Change o)) cs
convert_fits q convert.busy = record {
  published = λ m. omega arith;
  refused = omega arith;
  absent = omega arith;
  begun = λ low. absurd (omega arith);
}
convert_fits q (convert.absent gs) = record {
  published = λ m. omega arith;
  refused = omega arith;
  absent = omega arith;
  begun = λ low. refl;
}
convert_fits q (convert.was_removed gs) = record {
  published = λ m. omega arith;
  refused = omega arith;
  absent = omega arith;
  begun = λ low. refl;
}
convert_fits q (convert.last gs g low) = record {
  published = λ m. omega arith;
  refused = omega arith;
  absent = omega arith;
  begun = λ low. refl;
}
convert_fits q (convert.converting gs g o done low is) = conversion_fits q gs is

-- ---- a repair

repair_of_tale : {f : Facts} {g : ℕ} {o : RepairOutcome} {cs : List Call} → IsRepairOf f g o cs
    → (repair_tale o ≡ no_tale) × (takes_right (outcome.Repair o) ≡ true)
repair_of_tale (repair.repaired calls are) = (refl, refl)
repair_of_tale (repair.ended o j front last low are (repair.data_lost calls short more)) = (refl, refl)
repair_of_tale (repair.ended o j front last low are (repair.unreachable calls x server others short few is)) =
    (refl, refl)
repair_of_tale (repair.ended o j front last low are (repair.no_memory calls cut)) = (refl, refl)

repair_fits : {f : Facts} {o : RepairOutcome} {cs : List Call} → IsRepair f o cs
    → Fits f (repair_tale o) (takes_right (outcome.Repair o)) cs
repair_fits repair.busy = record {
  published = λ m. omega arith;
  refused = omega arith;
  absent = omega arith;
  begun = λ low. absurd (omega arith);
}
repair_fits (repair.absent gs) = record {
  published = λ m. omega arith;
  refused = omega arith;
  absent = omega arith;
  begun = λ low. refl;
}
repair_fits (repair.removed gs) = record {
  published = λ m. omega arith;
  refused = omega arith;
  absent = omega arith;
  begun = λ low. refl;
}
repair_fits {f = f} (repair.through o gs g inner is) =
    let t = repair_of_tale is in
    subst (λ (u : Tale). Fits f u (takes_right (outcome.Repair o))
    (call.begin true ∷ call.pin Work gs (pinned.At g) ∷ (inner ++ (call.unpin Work ∷ call.end ∷ [])))) (sym t.0) (record {
      published = λ m.
          let a = (mute_all f inner (repair_mute is)).published m in
          let b = sum_append (publishes m) inner (call.unpin Work ∷ call.end ∷ []) in omega arith;
      refused = omega arith;
      absent = omega arith;
      begun = λ low. t.1;
    })

-- ---- a read

-- pins, and calls on chunks between them, tell nothing
through_fits : (f : Facts) (hold g : ℕ) (inner cs : List Call) (took : Bool) → AreMute inner
    → IsThrough hold g inner cs → Fits f no_tale took cs
through_fits f hold g inner cs took q (inl (held, is)) =
    subst (Fits f no_tale took) (sym is) (mute_fits f took inner q)
through_fits f hold g inner cs took q (inr (free, (gs, is))) =
    subst (Fits f no_tale took) (sym is) (record {
      published = λ m.
          let a = (mute_all f inner q).published m in
          let b = sum_append (publishes m) inner (call.unpin Work ∷ []) in omega arith;
      refused = omega arith;
      absent = omega arith;
      begun = λ low.
          let a = (mute_all f inner q).begun in
          let b = sum_append (beside f said.begun) inner (call.unpin Work ∷ []) in absurd (omega arith);
    })

read_fits : (f : Facts) (hold : ℕ) (o : ReadOutcome) (cs : List Call) (took : Bool) → IsRead f hold o cs
    → Fits f (read_tale o) took cs
read_fits f hold read.Absent cs took (free, (gs, is)) = subst (Fits f (read_tale read.Absent) took) (sym is) (record {
  published = λ m. omega arith;
  refused = omega arith;
  absent = omega arith;
  begun = λ low. absurd (omega arith);
})
read_fits f hold read.Removed cs took (free, (gs, is)) = subst (Fits f no_tale took) (sym is) (record {
  published = λ m. omega arith;
  refused = omega arith;
  absent = omega arith;
  begun = λ low. absurd (omega arith);
})
read_fits f hold (read.Bytes h bytes from) cs took (g, inner, is, through) =
    through_fits f hold g inner cs took (read_mute f g (read.Bytes h bytes from) inner is) through
read_fits f hold (read.DataLost h k names) cs took (g, inner, is, through) =
    through_fits f hold g inner cs took (read_mute f g (read.DataLost h k names) inner is) through
read_fits f hold (read.Unreachable h k x server) cs took (g, inner, is, through) =
    through_fits f hold g inner cs took (read_mute f g (read.Unreachable h k x server) inner is) through
read_fits f hold read.Memory cs took (g, inner, is, through) =
    through_fits f hold g inner cs took (read_mute f g read.Memory inner is) through

-- ---- a reclaim

reclaim_fits : {f : Facts} {o : ReclaimOutcome} {cs : List Call} (took : Bool) → IsReclaim f o cs
    → Fits f (reclaim_tale o) took cs
reclaim_fits {f = f} took reclaim.no_memory = mute_fits f took [] tt
reclaim_fits took (reclaim.absent gs) = record {
  published = λ m. omega arith;
  refused = omega arith;
  absent = omega arith;
  begun = λ low. absurd (omega arith);
}
reclaim_fits {f = f} took (reclaim.reclaimed first answers changed learns long) =
    let last = discards (free_names f.book answers) changed in
    let s = closes_silent f 0 answers last (mute_all f last (discards_mute (free_names f.book answers) changed)) in
    let x = learnt first (closes 0 answers ++ last) learns s in
    record { published = x.published; refused = x.refused; absent = x.absent; begun = x.begun }
  where
    learnt : {n : ℕ} (first rest : List Call) → Learns f n first → Silent f rest → Fits f no_tale took (first ++ rest)
    learnt first rest (reclaim.published gs g) s = record {
      published = λ m. let a = s.published m in omega arith;
      refused = omega arith;
      absent = omega arith;
      begun = λ low. let a = s.begun in absurd (omega arith);
    }
    learnt first rest (reclaim.removed gs) s = record {
      published = λ m. let a = s.published m in omega arith;
      refused = omega arith;
      absent = omega arith;
      begun = λ low. let a = s.begun in absurd (omega arith);
    }

-- ---- a command

-- a command led from one actor to the other, and its calls say what its outcome tells
pub record Says (q : ℕ) (o : Outcome) (a b : Actor) : Type 0 where
  pub calls : List Call
  pub does : Does calls a b
  pub fits : Fits a.facts (outcome_tale q o) (takes_right o) calls

still : (q : ℕ) (o : Outcome) {a b : Actor} → outcome_tale q o ≡ no_tale → b ≡ a → Says q o a b
still q o {a = a} none e = record {
  calls = [];
  does = same e;
  fits = subst (λ (u : Tale). Fits a.facts u (takes_right o) []) (sym none) (mute_fits a.facts (takes_right o) [] tt);
}

pins_say : (q : ℕ) (o : Outcome) (p : Pinned) {a b : Actor} → Fits a.facts (outcome_tale q o) (takes_right o)
    (call.pin Hold [] p ∷ []) → Pins p a b → Says q o a b
pins_say q o p {a = a} fits (free, (gs, does)) = record {
  calls = call.pin Hold gs p ∷ [];
  does = does;
  fits = record { published = fits.published; refused = fits.refused; absent = fits.absent; begun = fits.begun };
}

pub comes_say : (q : ℕ) (x : Act) (o : Outcome) {a b : Actor} → stages a.facts ≡ q → Comes x o a b → Says q o a b
comes_say q (act.Create file) (outcome.Change c) e x =
    record { calls = x.calls; does = x.does; fits = create_fits q x.licence }
comes_say q (act.Create file) outcome.Memory e x = still q outcome.Memory refl x
comes_say q (act.Create file) o e x = absurd x
comes_say q (act.Read file away) (outcome.Bytes g count from digest) {a = a} e (bytes, x, long, is) = record {
  calls = x.0;
  does = x.2;
  fits = read_fits a.facts a.view.hold (read.Bytes g bytes from) x.0 false x.1;
}
comes_say q (act.Read file away) (outcome.Refused r) {a = a} {b = b} e x = let y = refused_reads r a b x in record {
  calls = y.0;
  does = y.2;
  fits = read_fits a.facts a.view.hold r y.0 false y.1;
}
comes_say q (act.Read file away) o e x = absurd x
comes_say q (act.Repair file away) (outcome.Repair r) e x =
    record { calls = x.calls; does = x.does; fits = repair_fits x.licence }
comes_say q (act.Repair file away) o e x = absurd x
comes_say q (act.Convert file away stop) (outcome.Change c) e x =
    record { calls = x.calls; does = x.does; fits = convert_fits q x.licence }
comes_say q (act.Convert file away stop) o e x = absurd x
comes_say q (act.Reclaim file) (outcome.Reclaim r) e x =
    record { calls = x.calls; does = x.does; fits = reclaim_fits false x.licence }
comes_say q (act.Reclaim file) o e x = absurd x
comes_say q (act.Remove file) (outcome.Change c) e x =
    record { calls = x.calls; does = x.does; fits = remove_fits q e x.licence }
comes_say q (act.Remove file) o e x = absurd x
comes_say q (act.Hold file) (outcome.Held g) e x = pins_say q (outcome.Held g) (pinned.At g) (record {
  published = λ m. omega arith;
  refused = omega arith;
  absent = omega arith;
  begun = λ low. absurd (omega arith);
}) x
comes_say q (act.Hold file) outcome.HoldAbsent e x = pins_say q outcome.HoldAbsent pinned.Absent (record {
  published = λ m. omega arith;
  refused = omega arith;
  absent = omega arith;
  begun = λ low. absurd (omega arith);
}) x
comes_say q (act.Hold file) outcome.HoldRemoved e x = pins_say q outcome.HoldRemoved pinned.Removed (record {
  published = λ m. omega arith;
  refused = omega arith;
  absent = omega arith;
  begun = λ low. absurd (omega arith);
}) x
comes_say q (act.Hold file) (outcome.AlreadyHeld g) e x = still q (outcome.AlreadyHeld g) refl x.1
comes_say q (act.Hold file) o e x = absurd x
comes_say q (act.Release file) (outcome.Released g) e x = record {
  calls = call.unpin Hold ∷ [];
  does = x.1;
  fits = record {
    published = λ m. omega arith;
    refused = omega arith;
    absent = omega arith;
    begun = λ low. absurd (omega arith);
  };
}
comes_say q (act.Release file) outcome.NotHeld e x = still q outcome.NotHeld refl x.1
comes_say q (act.Release file) o e x = absurd x
comes_say q (act.Lose server) o e x = absurd x
comes_say q act.Sweep o e x = absurd x
