use Rattle.std.proofs.Common.{◌≡◌, ◌≤◌, length}
use Rattle.mf_shared.specs.Noted.{note_of}
use Rattle.mf_shared.specs.Whole.{told_by}
use Rattle.mf_shared.proofs.Tries.{Turned}
use Rattle.mf_shared.proofs.calls.SharedAccessAccess.pin.Given as goal

abbrev pub invariant-loop : goal.invariant-loop
invariant-loop g l = record {
  turned : Turned l.counter (told_by l.fn.self) (told_by l.self);
  ledger : l.self.ledger ≡ l.fn.self.ledger;
  steps : (note_of l.fn.self).count ≤ (note_of l.self).count;
  end : l.end ≡ length l.fn.self.shared.now.book.shape.stages;
}
