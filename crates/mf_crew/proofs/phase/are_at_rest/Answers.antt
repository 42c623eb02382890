use Rattle.std.proofs.Common.{All, subst, arith}
use Rattle.std.proofs.lemmas.List.{take_all}
use Rattle.std.proofs.lemmas.List.Elements.{All-more}
use Rattle.mf_plain.specs.Resting.{AtRest}
use Rattle.mf_crew.proofs.phase.are_at_rest.Goals as goal

pub loop-plain-preserved : goal.loop-plain-preserved
loop-plain-preserved c =
    All-more AtRest c.args.files.now c.loop-plain.plain-index c.plain-item.result c.loop-plain-test.true
    c.loop-plain.invariant (subst AtRest c.plain-item.is c.is_at_rest.ensures)

pub returns : goal.returns
returns c =
    subst (All AtRest) (take_all c.loop-plain.plain-index c.args.files.now (omega (arith, c.loop-plain-test.false)))
    c.loop-plain.invariant
