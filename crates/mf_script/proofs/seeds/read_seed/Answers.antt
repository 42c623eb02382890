use Rattle.std.proofs.Common.{◌∙◌}
use Rattle.mf_script.proofs.SeedScript.{memory_alone}
use Rattle.mf_script.proofs.seeds.read_seed.Goals as goal

pub returns-in-Ok-clause-memory : goal.returns-in-Ok-clause-memory
returns-in-Ok-clause-memory c =
    memory_alone c.args.n c.as_bytes.result.now c.read_script.result (c.as_bytes.ensures.value ∙ c.in-Ok.ensures)
    c.read_script.ensures.none
