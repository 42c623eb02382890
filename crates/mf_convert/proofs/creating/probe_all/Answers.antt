use Rattle.std.proofs.Common.{◌+◌, length, ap, ◌∙◌, arith}
use Rattle.std.proofs.lemmas.List.{length_push}
use Rattle.mf_places.specs.declared.Name.TheVariants.{Data}
use Rattle.mf_convert.proofs.Building.{may_probe_first, nth_held, probed_more, probe_stays, marked_more}
use Rattle.mf_convert.proofs.creating.probe_all.Goals as goal

pub probe-state-requires-clause-may : goal.probe-state-requires-clause-may
probe-state-requires-clause-may g c = let v = c.loop-name.invariant in let low = c.loop-name-test.true in
    may_probe_first _ v.builder (g.met.A.Access.kept c.loop-name.access).file
    (nth_held c.loop-name.name-index (Data 0) v.builder c.requires.names low)

pub loop-name-preserved : goal.loop-name-preserved
loop-name-preserved g c =
    let v = c.loop-name.invariant in
    let low = c.loop-name-test.true in
    let room = v.room in
    let long = v.long in
    let more = length_push c.loop-name.states.items c.probe-state.result in
    let capacity = v.capacity in
    let spare = c.probe-state.ensures.spare in
    let grown = c.append.ensures.capacity in
    record {
      does = probed_more c.args.names.now c.loop-name.states.items c.loop-name.name-index (Data 0) v.does v.long
          c.probe-state.ensures.goes
          c.append.ensures.items low;
      builder = probe_stays v.builder c.probe-state.ensures.goes;
      long = ap length c.append.ensures.items ∙ (more ∙ ap (λ n. n + 1) long);
      marked = marked_more c.args.names.now c.loop-name.states.items c.loop-name.name-index (Data 0) v.builder v.marked
          v.long
          c.probe-state.ensures.goes c.append.ensures.items low;
      capacity = omega arith;
      room = omega arith;
    }
