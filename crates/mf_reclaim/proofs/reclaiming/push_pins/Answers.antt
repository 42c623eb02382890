use Rattle.std.proofs.Common.{refl, arith}
use Rattle.mf_machine.specs.declared.answer.Closed.TheVariants as closed
use Rattle.mf_reclaim.proofs.Pinned.{pins_more}
use Rattle.mf_reclaim.proofs.reclaiming.push_pins.Goals as goal

pub loop-answer-preserved : goal.loop-answer-preserved
loop-answer-preserved c =
    let v = c.loop-answer.invariant in
    let few = v.few in
    let room = v.room in
    let place = v.place in
    let more = c.push_pin.ensures.few in
    let grown = c.push_pin.ensures.capacity in
    record {
      value = pins_more c.args.answers.now c.loop-answer.answer-index c.loop-answer.g _ closed.Done
          c.loop-answer.pinned.items
          c.push_pin.new.pinned.items c.loop-answer-test.true refl v.place v.value c.push_pin.ensures.items;
      place = omega arith;
      few = omega arith;
      room = omega arith;
    }
