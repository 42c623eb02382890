use Rattle.mf_script.proofs.SoundLemmas.{sound}
use Rattle.mf_top.specs.declared.Task.TheVariants.{Run}
use Rattle.mf_top.proofs.answers.answer_to_run.Goals as goal

pub answer_run-requires-after_bounds : goal.answer_run-requires-after_bounds
answer_run-requires-after_bounds g c κs within = sound c.args.text.now c.in-Ok.script c.in-Ok.ensures.script

pub returns-in-Err : goal.returns-in-Err
returns-in-Err g c = c.answer_fault.ensures (Run c.args.json) c.args.text.now c.in-Err.ensures.fault
