use Rattle.std.proofs.Common.{◌≡◌, ◌+◌, ◌<◌, ◌++◌, List, length, get_or, ap, sym, ◌∙◌, subst, arith}
use Rattle.mf_places.specs.declared.Name.{Name}
use Rattle.mf_places.specs.declared.Name.TheVariants.{Data}
use Rattle.mf_vault.specs.Actor.{probe}
use Rattle.mf_vault.specs.Answers.{Goes}
use Rattle.mf_vault.specs.May.{MayProbe}
use Rattle.mf_repair.specs.Repair.{if_lost}
use Rattle.mf_repair.proofs.Probed.{probing_more, may_probe, probing_all}
use Rattle.mf_repair.proofs.probing.probe_all.Goals as goal

pub probe-state-requires-clause-may : goal.probe-state-requires-clause-may
probe-state-requires-clause-may g c =
    let i = c.loop-name.name-index in
    subst (λ (l : List Name). MayProbe (get_or l i (Data 0)) (g.A.Access.actor c.loop-name.access))
    (sym c.requires.names)
    (may_probe c.args.g c.args.j i (Data 0) (g.met.A.Access.kept c.args.access.now).file c.requires.mender
    c.requires.stripe
    c.loop-name.invariant.probing (subst (λ (l : List Name). i < length l) c.requires.names c.loop-name-test.true))

pub loop-name-preserved : goal.loop-name-preserved
loop-name-preserved g c =
    let v = c.loop-name.invariant in
    let i = c.loop-name.name-index in
    let s = c.probe-state.result in
    let before = g.A.Access.actor c.loop-name.access in
    let after = g.A.Access.actor c.probe-state.new.self in
    let room = v.room in
    let spare = c.probe-state.ensures.spare in
    let capacity = v.capacity in
    let grown = c.keep_lost.ensures.capacity in
    record {
      probing = probing_more c.args.g c.args.j i (Data 0) (g.met.A.Access.kept c.args.access.now).file
          c.requires.stripe
          v.probing (subst (λ (l : List Name). i < length l) c.requires.names c.loop-name-test.true)
          (subst (λ (l : List Name). Goes (probe (get_or l i (Data 0)) s) before after) c.requires.names
          c.probe-state.ensures.goes)
          (subst (λ (l : List Name). c.keep_lost.new.lost.items ≡ c.loop-name.lost.items ++ if_lost (get_or l i
          (Data 0)) s)
          c.requires.names c.keep_lost.ensures.items);
      capacity = omega arith;
      room = omega arith;
    }
