use Rattle.mf_script.specs.Seeds.{seed_text}
use Rattle.mf_script.proofs.SoundLemmas.{sound}
use Rattle.mf_top.proofs.Summing.{run_of}
use Rattle.mf_top.proofs.seeds.answer_run_of.Goals as goal

pub run-requires-after_bounds : goal.run-requires-after_bounds
run-requires-after_bounds g c κs within = sound (seed_text c.args.n) c.args.script.now c.requires

pub returns-in-Ok : goal.returns-in-Ok
returns-in-Ok g c =
    λ text.
    c.write_sum.ensures text
    (run_of c.args.n c.args.script.now c.in-Ok.ran.done.items c.deref.result.now c.in-Ok.ran.files.items
    c.deref-in-Ok.result.now
    c.requires c.in-Ok.ensures.plain c.in-Ok.ensures.left c.deref.ensures.value c.deref-in-Ok.ensures.value)
