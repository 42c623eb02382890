use Rattle.std.proofs.Common.{◌+◌, length, get_or, ap, ◌∙◌, subst, arith}
use Rattle.std.proofs.lemmas.List.{length_push}
use Rattle.mf_places.specs.declared.Name.TheVariants.{Data}
use Rattle.mf_vault.specs.Facts.{Facts}
use Rattle.mf_vault.proofs.Doing.{facts_stay}
use Rattle.mf_convert.specs.Convert.{GoesOn}
use Rattle.mf_convert.proofs.Courses.{handed_on}
use Rattle.mf_convert.proofs.Steady.{converter_stays, probes_ops}
use Rattle.mf_convert.proofs.Next.{nth_held}
use Rattle.mf_convert.proofs.Probing.{probed_more, all_more, found_more, cut_at}
use Rattle.mf_convert.proofs.converting.probe_all.Goals as goal

pub probe_one-requires-clause-converter : goal.probe_one-requires-clause-converter
probe_one-requires-clause-converter g c =
    converter_stays c.loop-name.invariant.completes.does (probes_ops _ _) c.requires.converter

pub probe_one-requires-clause-held : goal.probe_one-requires-clause-held
probe_one-requires-clause-held g c = nth_held (c.args.course.now.from + 1) c.args.names.now c.loop-name.name-index
    (Data 0)
    (facts_stay c.loop-name.invariant.completes.does) c.requires.names c.loop-name-test.true

pub returns-in_err-state-clause-cuts : goal.returns-in_err-state-clause-cuts
returns-in_err-state-clause-cuts g c = let v = c.loop-name.invariant in
    handed_on c.from_residual.result _ _ c.from_residual.ensures.1
    (cut_at c.args.names.now c.loop-name.states.items c.loop-name.name-index (Data 0) v.completes.does v.on v.long
    c.loop-name-test.true c.in_err-state.ensures.cuts)

pub loop-name-preserved : goal.loop-name-preserved
loop-name-preserved g c =
    let v = c.loop-name.invariant in
    let low = c.loop-name-test.true in
    let k = c.in_ok-state.ensures in
    let names = c.args.names.now in
    let states = c.loop-name.states.items in
    let n = c.loop-name.name-index in
    let more = length_push states c.in_ok-state.state in
    let long = v.long in
    let capacity = v.capacity in
    let grown = c.append.ensures.capacity in
    let room = v.room in
    let spare = c.probe_one.ensures.room in
    record {
      completes = record {
        does = probed_more names states n (Data 0) v.completes.does long k.goes c.append.ensures.items low;
        time = k.time;
      };
      on = all_more (g.A.Access.actor c.args.access.now).facts.book c.args.course.now.from names states n
          (Data 0) c.in_ok-state.state v.on
          (subst (λ (f : Facts). GoesOn f.book c.args.course.now.from (get_or names n (Data 0)) c.in_ok-state.state)
          (facts_stay v.completes.does) k.on)
          c.append.ensures.items low;
      found = found_more c.args.course.now.from names states n
          (Data 0) v.found long k.goes k.on c.append.ensures.items low;
      long = ap length c.append.ensures.items ∙ (more ∙ ap (λ m. m + 1) long);
      capacity = omega arith;
      room = omega arith;
    }
