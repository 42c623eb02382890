use Rattle.std.proofs.Common.{[], refl, sym, arith}
use mathlib.Core.List.{append-nil}
use Rattle.mf_plain.proofs.Going.{stands_after, goes_after}
use Rattle.mf_plain.proofs.Steps as steps
use Rattle.mf_plain.proofs.calls.PlainAccessAccess.pin.Goals as goal

pub pinned_by-pinned-requires : goal.pinned_by-pinned-requires
pinned_by-pinned-requires c = let s = c.args.self.now in let top = steps.number_top s.stands in let e =
    c.stages.ensures.value in omega arith

pub invariant_of-self : goal.invariant_of-self
invariant_of-self c = let s = c.args.self.now in record {
  stands =
      stands_after s.stands (steps.pins_to s.stands c.args.slot c.pinned_by-pinned.result c.stages.result
      c.hold_after-self.result
      c.work_after-self.result c.stages.ensures.value c.requires c.pinned_by-pinned.ensures c.hold_after-self.ensures
      c.work_after-self.ensures)
      c.pick-known.ensures (sym (append-nil s.ledger.items)) refl;
}

pub returns-clause-goes : goal.returns-clause-goes
returns-clause-goes c = let s = c.args.self.now in (
  [],
  goes_after s.stands (steps.pins_to s.stands c.args.slot c.pinned_by-pinned.result c.stages.result
      c.hold_after-self.result c.work_after-self.result c.stages.ensures.value c.requires c.pinned_by-pinned.ensures
      c.hold_after-self.ensures c.work_after-self.ensures)
      c.pick-known.ensures (sym (append-nil s.ledger.items)) refl,
)
