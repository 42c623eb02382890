use Rattle.std.proofs.Common.{All}
use Rattle.mf_script.specs.Phases.{ticks_before}
use Rattle.mf_client.specs.declared.done.Done.{Done}
use Rattle.mf_client.specs.Runs.{IsSmall}
use Rattle.mf_top.specs.ScriptRun.{RunsTo}
use Rattle.mf_crew.specs.Files.{AllRestBy}
use Rattle.mf_top.proofs.phases.run.Given as goal

abbrev pub invariant-loop-phase : goal.invariant-loop-phase
invariant-loop-phase g l = RunsTo l.script l.phase l.done.items l.files.items × AllRestBy l.script l.phase
    (ticks_before l.script l.phase) l.files.items
    × All (λ (d : Done). IsSmall d.io) l.done.items
