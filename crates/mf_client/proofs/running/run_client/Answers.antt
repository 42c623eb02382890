use Rattle.std.proofs.Common.{◌+◌, sym, ap, subst, map, length, arith, get_or, List}
use Rattle.mf_lines.specs.declared.parts.Act.TheVariants.{Create}
use Rattle.mf_lines.specs.declared.parts.Command.{Command}
use Rattle.mf_client.specs.Clients.{AreFiles}
use Rattle.mf_client.specs.Runs.{IsDone}
use Rattle.mf_client.specs.Steps.{Finds}
use Rattle.mf_client.proofs.Numbered.{all_kept}
use Rattle.mf_client.proofs.Known.{commands_few}
use Rattle.mf_client.proofs.Commands.{running_more, finds_there, few_policy, few_files}
use Rattle.mf_client.proofs.running.run_client.Goals as goal

pub overflow_cast-place : goal.overflow_cast-place
overflow_cast-place g c =
    let lt = c.loop-i-test.true in
    let same = ap length c.commands_of-commands.ensures.value in
    let kept = c.commands_of-commands.ensures.sound in
    let few = commands_few c.args.script.now c.args.phase c.args.client kept in omega arith

pub overflow_add-place : goal.overflow_add-place
overflow_add-place g c =
    let lt = c.loop-i-test.true in
    let same = ap length c.commands_of-commands.ensures.value in
    let kept = c.commands_of-commands.ensures.sound in
    let few = commands_few c.args.script.now c.args.phase c.args.client kept in omega arith

pub run_command-requires : goal.run_command-requires
run_command-requires g c =
    let f = g.A.Access.actor in
    let xs = c.loop-i.accesses in
    let lt = c.loop-i-test.true in
    let some : Command = record { line = 0; act = Create 0 } in
    let same = c.commands_of-commands.ensures.value in
    let kept = c.commands_of-commands.ensures.sound in
    let long = ap length same in
    subst (λ (l : List Command). Finds c.args.script.now (get_or l c.loop-i.i some) (map f xs)) (sym same)
    (finds_there c.args.script.now c.args.phase c.args.client c.loop-i.i (map f c.args.accesses.now) (map f xs)
    some kept c.requires.client c.requires.files (all_kept f xs (λ x. g.met.A.Access.kept x))
    c.loop-i.invariant.running.idle c.loop-i.invariant.running.facts (omega arith))

pub loop-i-preserved : goal.loop-i-preserved
loop-i-preserved g c =
    let f = g.A.Access.actor in
    let xs = c.loop-i.accesses in
    let lt = c.loop-i-test.true in
    let v = c.loop-i.invariant in
    let some : Command = record { line = 0; act = Create 0 } in
    let same = c.commands_of-commands.ensures.value in
    let kept = c.commands_of-commands.ensures.sound in
    let long = ap length same in
    let all = all_kept f xs (λ x. g.met.A.Access.kept x) in
    let room = v.capacity in
    let more = c.append.ensures.capacity in
    record {
      running = running_more c.args.script.now c.args.phase c.args.client c.loop-i.i (map f c.args.accesses.now)
          (map f xs)
          (map f c.run_command.new.accesses) c.loop-i.done.items c.append.new.items.items some c.run_command.result
          v.running all (few_policy c.args.script.now kept)
          (few_files (map f xs) c.args.script.now c.args.phase all
          (subst (AreFiles c.args.script.now c.args.phase) (sym v.running.facts) c.requires.files)) (omega arith)
          (subst (λ (l : List Command). IsDone c.args.script.now (record {
            phase = c.args.phase;
            client = c.args.client;
            command = c.loop-i.i + 1;
          }) (get_or l c.loop-i.i some) c.run_command.result (map f xs) (map f c.run_command.new.accesses)) same
          c.run_command.ensures)
          c.append.ensures.items;
      capacity = omega arith;
    }
