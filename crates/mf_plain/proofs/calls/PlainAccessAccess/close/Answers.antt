use Rattle.std.proofs.Common.{refl}
use Rattle.mf_plain.proofs.Going.{stands_after, goes_after}
use Rattle.mf_plain.proofs.Steps as steps
use Rattle.mf_plain.proofs.calls.PlainAccessAccess.close.Goals as goal

pub invariant_of-self : goal.invariant_of-self
invariant_of-self c = let s = c.args.self.now in record {
  stands =
      stands_after s.stands (steps.closes_to s.stands c.args.g c.close_by-closed.result c.index-shut.result.now
      c.shut_after.result c.pins.result c.index-shut.ensures c.pins.ensures.value c.pins.ensures.low
      c.close_by-closed.ensures c.requires.may c.shut_after.ensures) c.pick-known.ensures c.append.ensures.items
      refl;
}

pub returns-clause-goes : goal.returns-clause-goes
returns-clause-goes c = let s = c.args.self.now in
    goes_after s.stands (steps.closes_to s.stands c.args.g c.close_by-closed.result c.index-shut.result.now
    c.shut_after.result c.pins.result c.index-shut.ensures c.pins.ensures.value c.pins.ensures.low
    c.close_by-closed.ensures c.requires.may c.shut_after.ensures) c.pick-known.ensures c.append.ensures.items
    refl
