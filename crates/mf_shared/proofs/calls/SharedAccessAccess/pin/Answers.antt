use Rattle.std.proofs.Common.{refl, ◌∙◌, subst, arith}
use Rattle.mf_vault.specs.Actor.{Actor}
use Rattle.mf_shared.specs.Noted.{PinMeets, note_of}
use Rattle.mf_shared.specs.Whole.{told_by}
use Rattle.mf_shared.proofs.Noting.{pin_behind}
use Rattle.mf_shared.proofs.Tries.{turned_ends, turned_more}
use Rattle.mf_shared.proofs.calls.SharedAccessAccess.pin.Goals as goal

pub returns-in-Some-clause-goes : goal.returns-in-Some-clause-goes
returns-in-Some-clause-goes g c = turned_ends c.loop.counter c.args.slot c.in-Some.pinned (told_by c.args.self.now)
    (told_by c.loop.self) (told_by c.try_pin.new.self) refl c.loop.invariant.turned c.in-Some.ensures.tries

pub loop-preserved : goal.loop-preserved
loop-preserved g c = let i = c.loop.invariant in let miss = c.in_default.ensures.tries in record {
  turned = turned_more c.loop.counter miss.0 (told_by c.args.self.now) (told_by c.loop.self)
      (told_by c.try_pin.new.self) i.turned miss.1;
  ledger = c.try_pin.ensures.ledger ∙ i.ledger;
  steps = let a = i.steps in let b = c.try_pin.ensures.steps in omega arith;
  end = i.end;
}

pub returns-in-Some-clause-met : goal.returns-in-Some-clause-met
returns-in-Some-clause-met g c = let t = c.loop.invariant.turned in
    pin_behind (told_by c.args.self.now).facts c.in-Some.pinned (note_of c.args.self.now) (note_of c.loop.self)
    (note_of c.try_pin.new.self) c.loop.invariant.steps
    (subst (λ (a : Actor). PinMeets a.facts c.in-Some.pinned (note_of c.loop.self) (note_of c.try_pin.new.self))
    t.becomes c.in-Some.ensures.noted)
