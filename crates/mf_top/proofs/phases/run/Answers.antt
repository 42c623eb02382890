use Rattle.std.proofs.Common.{◌≡◌, ◌≤◌, ◌+◌, suc, All, sym, subst, arith}
use Rattle.std.proofs.lemmas.List.Elements.{All-nil}
use Rattle.mf_client.specs.declared.done.Done.{Done}
use Rattle.mf_client.specs.Runs.{IsSmall}
use Rattle.mf_script.specs.Phases.{ticks_before}
use Rattle.mf_crew.specs.Files.{AllRestBy}
use Rattle.mf_top.proofs.Running.{begins, rest_on, has_phase, ticks_grow, run_next, run_ends}
use Rattle.mf_top.proofs.Running.{plain_few, of_lines}
use Rattle.mf_top.proofs.phases.run.Goals as goal

pub loop-phase-init : goal.loop-phase-init
loop-phase-init g c = (
  (c.new-done.ensures.items, c.in_ok-files.ensures),
  subst (AllRestBy c.args.script.now 0 (ticks_before c.args.script.now 0)) (sym c.in_ok-files.ensures)
      (begins c.args.script.now (ticks_before c.args.script.now 0)),
  subst (All (λ (d : Done). IsSmall d.io)) (sym c.new-done.ensures.items) (All-nil (λ (d : Done). IsSmall d.io)),
)

pub overflow_add-phase : goal.overflow_add-phase
overflow_add-phase g c =
    record {
      fits = omega (
        arith,
        c.loop-phase-test.true,
        c.loop-phase.auto.phase-end,
        c.count_phases-phase-end.ensures,
        c.requires.phases,
      );
    }

pub run_phase-requires-clause-phase : goal.run_phase-requires-clause-phase
run_phase-requires-clause-phase g c κs within =
    has_phase c.args.script.now c.loop-phase.phase
    (omega (arith, c.loop-phase-test.true, c.count_phases-phase-end.ensures))

pub run_phase-requires-clause-rest : goal.run_phase-requires-clause-rest
run_phase-requires-clause-rest g c κs within =
    let s = c.args.script.now in
    let n = c.loop-phase.phase in
    let next : suc n ≡ n + 1 = omega arith in
    let later = subst (λ k. ticks_before s n ≤ ticks_before s k) next (ticks_grow s n) in
    let on : ticks_before s n
    ≤ c.ticks_before-now.result = subst (λ t. ticks_before s n ≤ t) (sym c.ticks_before-now.ensures) later in
    subst (λ k. AllRestBy s k c.ticks_before-now.result c.loop-phase.files.items) next
    (rest_on s n (ticks_before s n) c.ticks_before-now.result c.loop-phase.files.items c.loop-phase.invariant.1 on)

pub loop-phase-preserved : goal.loop-phase-preserved
loop-phase-preserved g c =
    run_next c.args.script.now c.loop-phase.phase (λ (d : Done). IsSmall d.io) c.loop-phase.done.items
    c.in_ok-ran.ran.done.items c.append.new.all.items c.loop-phase.files.items c.in_ok-ran.ran.files.items
    c.ticks_before-now.result c.ticks_before-now.ensures c.loop-phase.invariant.0 c.in_ok-ran.ensures.runs
    c.in_ok-ran.ensures.rest c.loop-phase.invariant.2
    c.in_ok-ran.ensures.small c.in_ok-append.ensures

pub returns-clause-plain : goal.returns-clause-plain
returns-clause-plain g c =
    run_ends c.args.script.now c.loop-phase.phase c.loop-phase.done.items c.loop-phase.files.items
    (omega (arith, c.loop-phase-test.false, c.loop-phase.auto.phase-end, c.count_phases-phase-end.ensures))
    c.loop-phase.invariant.0

pub returns-clause-few : goal.returns-clause-few
returns-clause-few g c =
    let ran = run_ends c.args.script.now c.loop-phase.phase c.loop-phase.done.items c.loop-phase.files.items
    (omega (arith, c.loop-phase-test.false, c.loop-phase.auto.phase-end, c.count_phases-phase-end.ensures))
    c.loop-phase.invariant.0 in
    plain_few c.args.script.now c.loop-phase.done.items c.loop-phase.files.items ran c.requires.commands

pub returns-clause-small : goal.returns-clause-small
returns-clause-small g c = c.loop-phase.invariant.2

pub returns-clause-left : goal.returns-clause-left
returns-clause-left g c =
    of_lines c.args.script.now c.loop-phase.phase
    (ticks_before c.args.script.now c.loop-phase.phase) c.loop-phase.files.items c.deref.result.now
    c.loop-phase.invariant.1
    (sym c.deref.ensures.value) c.are_at_rest.ensures
