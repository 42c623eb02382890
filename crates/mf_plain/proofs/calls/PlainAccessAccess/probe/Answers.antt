use Rattle.std.proofs.Common.{refl}
use Rattle.mf_vault.specs.declared.answers.Op.TheVariants as op
use Rattle.mf_vault.specs.Actor.{state_answer}
use Rattle.mf_plain.proofs.Going.{stands_after, goes_after}
use Rattle.mf_plain.proofs.Coding as code
use Rattle.mf_plain.proofs.Named as named
use Rattle.mf_plain.proofs.calls.PlainAccessAccess.probe.Goals as goal

pub invariant_of-self : goal.invariant_of-self
invariant_of-self c = let s = c.args.self.now in record {
  stands =
      stands_after s.stands (named.probes s.stands c.args.name c.state-state.result c.requires.may
      (code.found s c.args.name c.state-state.result c.state-state.ensures)) c.pick-note.ensures
      (code.entered op.Probe c.args.name c.told.result (state_answer c.state-state.result) s.ledger.items
      c.enter.new.ledger.items c.enter.ensures.items c.told.ensures) refl;
}

pub returns-clause-goes : goal.returns-clause-goes
returns-clause-goes c = let s = c.args.self.now in
    goes_after s.stands (named.probes s.stands c.args.name c.state-state.result c.requires.may
    (code.found s c.args.name c.state-state.result c.state-state.ensures)) c.pick-note.ensures
    (code.entered op.Probe c.args.name c.told.result (state_answer c.state-state.result) s.ledger.items
    c.enter.new.ledger.items c.enter.ensures.items c.told.ensures) refl
