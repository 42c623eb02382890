use Rattle.std.proofs.Common.{◌≡◌, ◌≤◌}
use Rattle.mf_shared.specs.Noted.{note_of}
use Rattle.mf_shared.specs.Whole.{told_by}
use Rattle.mf_shared.proofs.access.SharedAccess.fetch.Given as goal

abbrev pub invariant-loop : goal.invariant-loop
invariant-loop g l = (goal.iterator-loop g).can_next l.iterator' × (goal.iterator-loop g).is_finite l.iterator'
    × (told_by l.self ≡ told_by l.fn.self) × (l.self.ledger ≡ l.fn.self.ledger)
    × ((note_of l.fn.self).count ≤ (note_of l.self).count)
