use Rattle.std.proofs.Common.{refl, sym}
use mathlib.Core.List.{append-nil}
use Rattle.mf_plain.proofs.Going.{stands_after, goes_after}
use Rattle.mf_plain.proofs.Steps as steps
use Rattle.mf_plain.proofs.calls.PlainAccessAccess.publish.Goals as goal

pub invariant_of-self : goal.invariant_of-self
invariant_of-self c = let s = c.args.self.now in record {
  stands =
      stands_after s.stands (steps.publishes s.stands c.args.next c.requires) c.pick-known.ensures
      (sym (append-nil s.ledger.items)) refl;
}

pub returns-clause-goes : goal.returns-clause-goes
returns-clause-goes c = let s = c.args.self.now in
    goes_after s.stands (steps.publishes s.stands c.args.next c.requires) c.pick-known.ensures
    (sym (append-nil s.ledger.items)) refl
