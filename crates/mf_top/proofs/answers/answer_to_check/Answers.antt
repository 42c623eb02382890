use Rattle.mf_top.specs.declared.Task.TheVariants.{Check}
use Rattle.mf_top.proofs.answers.answer_to_check.Goals as goal

pub returns-in-Err : goal.returns-in-Err
returns-in-Err g c = c.answer_fault.ensures Check c.args.text.now c.in-Err.ensures.fault
