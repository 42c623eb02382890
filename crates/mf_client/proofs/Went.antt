-- What a command on one file leaves of the file's actor.
use Rattle.std.proofs.Common.{◌≡◌, ℕ, ◌+◌, ◌^◌, ◌<◌, List, [], ◌∷◌, length, Option}
use Rattle.std.proofs.Common.{refl, sym, ap, ◌∙◌, subst, arith, drop}
use Rattle.std.proofs.Math.Seq.{drop-append_seam}
use Rattle.mf_machine.specs.declared.answer.Slot.TheVariants.{Hold}
use Rattle.mf_machine.specs.declared.view.View.{View}
use Rattle.mf_machine.specs.Steps as row
use Rattle.mf_places.specs.Facts.{IsBook}
use Rattle.mf_lines.specs.declared.parts.Act.{Act}
use Rattle.mf_lines.specs.declared.parts.Act.TheVariants as act
use Rattle.mf_vault.specs.declared.answers.Pinned.{Pinned}
use Rattle.mf_vault.specs.declared.answers.Pinned.TheVariants as pinned
use Rattle.mf_vault.specs.Facts.{Facts}
use Rattle.mf_vault.specs.Actor.{Actor, Call, did, onward, pin, unpin, tried}
use Rattle.mf_vault.specs.Licence.{Does, did_all, entries_of}
use Rattle.mf_vault.specs.Conditions.{IsIdle}
use Rattle.mf_vault.proofs.Doing.{nothing, same, entries_are}
use Rattle.mf_vault.proofs.Entering.{tried_right}
use Rattle.mf_read.specs.declared.outcome.ReadOutcome.{ReadOutcome}
use Rattle.mf_read.specs.declared.outcome.ReadOutcome.TheVariants as read
use Rattle.mf_read.specs.Reading.{Reads}
use Rattle.mf_client.specs.declared.done.Outcome.{Outcome}
use Rattle.mf_client.specs.declared.done.Outcome.TheVariants as outcome
use Rattle.mf_client.specs.Acts.{IsCreated, IsRefused, IsReadOut, IsRepaired, IsConverted, IsReclaimed, IsRemoved}
use Rattle.mf_client.specs.Acts.{IsHeld, IsReleased, Pins}
use Rattle.mf_client.specs.Laws.{IsWhole}
use Rattle.mf_client.specs.Runs.{gained}
use Rattle.mf_client.specs.Acts.{Comes}
use Rattle.mf_convert.proofs.Leaving.{creates_leaves, removes_leaves, converts_leaves}
use Rattle.mf_read.proofs.Leaving.{reads_leaves}
use Rattle.mf_repair.proofs.Leaving.{repairs_leaves}
use Rattle.mf_reclaim.proofs.Leaving.{reclaims_leaves}
use Rattle.mf_repair.proofs.Bounded.{entries_few as repairs_few}
use Rattle.mf_reclaim.proofs.Few.{entries_few as reclaims_few}
use Rattle.mf_convert.proofs.Fewer.{entries_few as converts_few}
use Rattle.mf_convert.proofs.Begun.{creates_few, removes_few}
use Rattle.mf_read.proofs.Few.{reads_few}

-- few calls led from one actor to the other, and it is idle
pub record Went (a b : Actor) : Type 0 where
  pub calls : List Call
  pub does : Does calls a b
  pub few : length (entries_of calls) < 2 ^ 24
  pub idle : IsIdle b

stayed : {a b : Actor} → IsIdle a → b ≡ a → Went a b
stayed {a = a} idle e = subst (Went a) (sym e) (record { calls = []; does = nothing a; few = omega arith; idle = idle })

-- a pin of the Hold slot
hold_work : (f : Facts) (gs : List ℕ) (p : Pinned) (v : View) → (tried f Hold gs p v).work ≡ v.work
hold_work f [] (pinned.At g) v = refl
hold_work f [] pinned.Absent v = refl
hold_work f [] pinned.Removed v = refl
hold_work f (g ∷ gs) p v = hold_work f gs p (row.missed g (row.looked (g + 1) v))

pins_went : (p : Pinned) {a b : Actor} → IsIdle a → Pins p a b → Went a b
pins_went p {a = a} idle (free, (gs, does)) = record {
  calls = pin Hold gs p ∷ [];
  does = does;
  few = omega arith;
  idle = subst IsIdle (sym does.becomes) (record {
    right = tried_right a.facts Hold gs p a.view ∙ idle.right;
    work = hold_work a.facts gs p a.view ∙ idle.work;
  });
}

pub refused_reads : (o : ReadOutcome) (a b : Actor) → IsRefused o a b → Reads o a b
refused_reads (read.Bytes g bytes from) a b x = absurd x
refused_reads read.Absent a b x = x
refused_reads read.Removed a b x = x
refused_reads (read.DataLost g j names) a b x = x
refused_reads (read.Unreachable g j name server) a b x = x
refused_reads read.Memory a b x = x

reads_went : (o : ReadOutcome) {a b : Actor} → IsBook a.facts.book → IsIdle a → Reads o a b → Went a b
reads_went o book idle x = record {
  calls = x.0;
  does = x.2;
  few = reads_few o book x;
  idle = (reads_leaves o x idle).idle;
}

created_went : (o : Outcome) {a b : Actor} → IsBook a.facts.book → IsIdle a → IsCreated o a b → Went a b
created_went (outcome.Change change) book idle x = record {
  calls = x.calls;
  does = x.does;
  few = creates_few book x;
  idle = (creates_leaves x idle).idle;
}
created_went outcome.Memory book idle x = stayed idle x
created_went other book idle x = absurd x

read_went : (o : Outcome) {a b : Actor} → IsBook a.facts.book → IsIdle a → IsReadOut o a b → Went a b
read_went (outcome.Bytes g count from digest) book idle (bytes, x, long, is) =
    reads_went (read.Bytes g bytes from) book idle x
read_went (outcome.Refused refused) {a = a} {b = b} book idle x =
    reads_went refused book idle (refused_reads refused a b x)
read_went other book idle x = absurd x

repaired_went : (o : Outcome) {a b : Actor} → IsBook a.facts.book → IsIdle a → IsRepaired o a b → Went a b
repaired_went (outcome.Repair repair) book idle x = record {
  calls = x.calls;
  does = x.does;
  few = repairs_few book x;
  idle = (repairs_leaves x idle).idle;
}
repaired_went other book idle x = absurd x

converted_went : (stop : Option ℕ) (o : Outcome) {a b : Actor} → IsBook a.facts.book → IsIdle a → IsConverted stop o a b
    → Went a b
converted_went stop (outcome.Change change) book idle x = record {
  calls = x.calls;
  does = x.does;
  few = converts_few book x;
  idle = (converts_leaves x idle).idle;
}
converted_went stop other book idle x = absurd x

reclaimed_went : (o : Outcome) {a b : Actor} → IsBook a.facts.book → IsIdle a → IsReclaimed o a b → Went a b
reclaimed_went (outcome.Reclaim reclaim) book idle x = record {
  calls = x.calls;
  does = x.does;
  few = reclaims_few book x;
  idle = (reclaims_leaves x idle).idle;
}
reclaimed_went other book idle x = absurd x

removed_went : (o : Outcome) {a b : Actor} → IsIdle a → IsRemoved o a b → Went a b
removed_went (outcome.Change change) idle x = record {
  calls = x.calls;
  does = x.does;
  few = removes_few x;
  idle = (removes_leaves x idle).idle;
}
removed_went other idle x = absurd x

held_went : (o : Outcome) {a b : Actor} → IsIdle a → IsHeld o a b → Went a b
held_went (outcome.Held g) idle x = pins_went (pinned.At g) idle x
held_went outcome.HoldAbsent idle x = pins_went pinned.Absent idle x
held_went outcome.HoldRemoved idle x = pins_went pinned.Removed idle x
held_went (outcome.AlreadyHeld g) idle x = stayed idle x.1
held_went other idle x = absurd x

released_went : (o : Outcome) {a b : Actor} → IsIdle a → IsReleased o a b → Went a b
released_went (outcome.Released g) idle (held, does) = record {
  calls = unpin Hold ∷ [];
  does = does;
  few = omega arith;
  idle = subst IsIdle (sym does.becomes) (record { right = idle.right; work = idle.work });
}
released_went outcome.NotHeld idle x = stayed idle x.1
released_went other idle x = absurd x

pub comes_went : (x : Act) (o : Outcome) {a b : Actor} → IsBook a.facts.book → IsIdle a → Comes x o a b → Went a b
comes_went (act.Create file) o book idle x = created_went o book idle x
comes_went (act.Read file away) o book idle x = read_went o book idle x
comes_went (act.Repair file away) o book idle x = repaired_went o book idle x
comes_went (act.Convert file away stop) o book idle x = converted_went stop o book idle x
comes_went (act.Reclaim file) o book idle x = reclaimed_went o book idle x
comes_went (act.Remove file) o book idle x = removed_went o idle x
comes_went (act.Hold file) o book idle x = held_went o idle x
comes_went (act.Release file) o book idle x = released_went o idle x
comes_went (act.Lose server) o book idle x = absurd x
comes_went act.Sweep o book idle x = absurd x

-- what the ledger gained
pub gained_is : {cs : List Call} {a b : Actor} → Does cs a b → gained a b ≡ entries_of cs
gained_is {cs = cs} {a = a} does =
    ap (drop (length a.entries)) (entries_are does) ∙ drop-append_seam a.entries (entries_of cs)

-- the whole state goes on being told
pub whole_all : (cs : List Call) (a : Actor) → IsWhole a → IsWhole (did_all cs a)
whole_all [] a is = is
whole_all (c ∷ cs) a (w, e) = whole_all cs (did c a) (_, ap (onward _) e)

pub whole_on : {cs : List Call} {a b : Actor} → Does cs a b → IsWhole a → IsWhole b
whole_on {cs = cs} {a = a} does is = subst IsWhole (sym does.becomes) (whole_all cs a is)

-- calls led from one actor to the other
created_does : (o : Outcome) {a b : Actor} → IsCreated o a b → (cs : List Call) × Does cs a b
created_does (outcome.Change change) x = (x.calls, x.does)
created_does outcome.Memory x = ([], same x)
created_does other x = absurd x

read_does : (o : Outcome) {a b : Actor} → IsReadOut o a b → (cs : List Call) × Does cs a b
read_does (outcome.Bytes g count from digest) (bytes, x, long, is) = (x.0, x.2)
read_does (outcome.Refused refused) {a = a} {b = b} x = let r = refused_reads refused a b x in (r.0, r.2)
read_does other x = absurd x

repaired_does : (o : Outcome) {a b : Actor} → IsRepaired o a b → (cs : List Call) × Does cs a b
repaired_does (outcome.Repair repair) x = (x.calls, x.does)
repaired_does other x = absurd x

converted_does : (stop : Option ℕ) (o : Outcome) {a b : Actor} → IsConverted stop o a b → (cs : List Call) × Does cs a b
converted_does stop (outcome.Change change) x = (x.calls, x.does)
converted_does stop other x = absurd x

reclaimed_does : (o : Outcome) {a b : Actor} → IsReclaimed o a b → (cs : List Call) × Does cs a b
reclaimed_does (outcome.Reclaim reclaim) x = (x.calls, x.does)
reclaimed_does other x = absurd x

removed_does : (o : Outcome) {a b : Actor} → IsRemoved o a b → (cs : List Call) × Does cs a b
removed_does (outcome.Change change) x = (x.calls, x.does)
removed_does other x = absurd x

held_does : (o : Outcome) {a b : Actor} → IsHeld o a b → (cs : List Call) × Does cs a b
held_does (outcome.Held g) (free, (gs, does)) = (_, does)
held_does outcome.HoldAbsent (free, (gs, does)) = (_, does)
held_does outcome.HoldRemoved (free, (gs, does)) = (_, does)
held_does (outcome.AlreadyHeld g) x = ([], same x.1)
held_does other x = absurd x

released_does : (o : Outcome) {a b : Actor} → IsReleased o a b → (cs : List Call) × Does cs a b
released_does (outcome.Released g) x = (_, x.1)
released_does outcome.NotHeld x = ([], same x.1)
released_does other x = absurd x

pub comes_does : (x : Act) (o : Outcome) {a b : Actor} → Comes x o a b → (cs : List Call) × Does cs a b
comes_does (act.Create file) o x = created_does o x
comes_does (act.Read file away) o x = read_does o x
comes_does (act.Repair file away) o x = repaired_does o x
comes_does (act.Convert file away stop) o x = converted_does stop o x
comes_does (act.Reclaim file) o x = reclaimed_does o x
comes_does (act.Remove file) o x = removed_does o x
comes_does (act.Hold file) o x = held_does o x
comes_does (act.Release file) o x = released_does o x
comes_does (act.Lose server) o x = absurd x
comes_does act.Sweep o x = absurd x
