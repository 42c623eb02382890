use Rattle.std.proofs.Common.{refl}
use Rattle.mf_vault.specs.declared.answers.Op.TheVariants as op
use Rattle.mf_vault.specs.Actor.{change_answer}
use Rattle.mf_plain.proofs.Going.{stands_after, goes_after}
use Rattle.mf_plain.proofs.Coding as code
use Rattle.mf_plain.proofs.fetch.PlainAccessFetch.lose.Goals as goal

pub invariant_of-self : goal.invariant_of-self
invariant_of-self c = let s = c.args.self.now in record {
  stands =
      stands_after s.stands (code.loses s c.args.name c.args.line c.place_of-n.result c.index_mut.result.now
      c.lose_rest-yes.new.state c.lose_rest-yes.result c.requires.may c.place_of-n.ensures.value
      c.place_of-n.ensures.low c.index_mut.ensures.value c.lose_rest-yes.ensures.answer
      c.lose_rest-yes.ensures.value) c.pick-known.ensures
      (code.entered op.Lose c.args.name c.changed.result (change_answer c.lose_rest-yes.result)
      s.ledger.items c.enter.new.ledger.items c.enter.ensures.items c.changed.ensures) refl;
}

pub returns-clause-goes : goal.returns-clause-goes
returns-clause-goes c = let s = c.args.self.now in
    goes_after s.stands (code.loses s c.args.name c.args.line c.place_of-n.result c.index_mut.result.now
    c.lose_rest-yes.new.state c.lose_rest-yes.result c.requires.may c.place_of-n.ensures.value
    c.place_of-n.ensures.low c.index_mut.ensures.value c.lose_rest-yes.ensures.answer
    c.lose_rest-yes.ensures.value) c.pick-known.ensures
    (code.entered op.Lose c.args.name c.changed.result (change_answer c.lose_rest-yes.result)
    s.ledger.items c.enter.new.ledger.items c.enter.ensures.items c.changed.ensures) refl
