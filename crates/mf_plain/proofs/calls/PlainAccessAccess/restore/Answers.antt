use Rattle.std.proofs.Common.{refl, true}
use Rattle.mf_vault.specs.declared.answers.Op.TheVariants as op
use Rattle.mf_vault.specs.Actor.{change_answer}
use Rattle.mf_plain.proofs.Going.{stands_after, goes_after}
use Rattle.mf_plain.proofs.Coding as code
use Rattle.mf_plain.proofs.calls.PlainAccessAccess.restore.Goals as goal

pub invariant_of-self : goal.invariant_of-self
invariant_of-self c = let s = c.args.self.now in record {
  stands =
      stands_after s.stands (code.restores s c.args.name c.args.bytes c.place_of-at.result c.requires.may
      c.requires.cell c.place_of-at.ensures.value) c.pick-known.ensures
      (code.entered op.Restore c.args.name c.changed.result (change_answer true) s.ledger.items
      c.enter.new.ledger.items c.enter.ensures.items c.changed.ensures) refl;
}

pub returns-clause-goes : goal.returns-clause-goes
returns-clause-goes c = let s = c.args.self.now in
    goes_after s.stands (code.restores s c.args.name c.args.bytes c.place_of-at.result c.requires.may c.requires.cell
    c.place_of-at.ensures.value) c.pick-known.ensures (code.entered op.Restore c.args.name c.changed.result
    (change_answer true) s.ledger.items c.enter.new.ledger.items c.enter.ensures.items c.changed.ensures) refl
