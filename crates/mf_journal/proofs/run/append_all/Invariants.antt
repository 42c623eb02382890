use Rattle.std.proofs.Common.{◌≡◌, ◌+◌, ◌*◌, take, true}
use Rattle.mf_journal.specs.Calls.{Ran}
use Rattle.mf_journal.specs.Kept.{adds_all, disk_of, gate_after, gate_of}
use Rattle.mf_journal.specs.Opening.{lists}
use Rattle.mf_journal.specs.Run.{HasAcknowledged, KeepsMore}
use Rattle.mf_journal.proofs.run.append_all.Given as goal

-- the records so far are acknowledged
abbrev pub invariant-loop-i : goal.invariant-loop-i
invariant-loop-i g l =
    let more = lists l.payloads in
    let D = g.D.Disk in
    let old = l.initial.journal in
    record {
      ran : Ran (adds_all (gate_of old) (take l.i more)) (D.log (disk_of old))
          (D.log (disk_of l.journal)) true;
      gate : gate_of l.journal ≡ gate_after (gate_of old) (take l.i more);
      calls : (D.log (disk_of l.journal)).calls ≡ (D.log (disk_of old)).calls + 4 * l.i;
      origin : D.origin (disk_of l.journal) ≡ D.origin (disk_of old);
      keeps : KeepsMore D.reads D.leaves old l.journal (take l.i more);
      moments : HasAcknowledged D.reads D.leaves (λ d. (D.log d).calls) D.left_since old l.journal
          more l.i;
    }
