use Rattle.std.proofs.Common.{get_or, subst, arith, rules}
use Rattle.std.proofs.lemmas.List.{take_all}
use Rattle.std.proofs.lemmas.List.Elements.{All-more}
use Rattle.std.specs.List.{All}
use Rattle.mf_route.specs.Plans.{IsCandidate, nobody}
use Rattle.tests_route.proofs.asking.are_within.Goals as goal

pub loop-i-preserved : goal.loop-i-preserved
loop-i-preserved c =
    let all = c.args.candidates.now in
    let here : IsCandidate 4 (get_or all c.loop-i.i nobody) = search rules in
    All-more (IsCandidate 4) all c.loop-i.i nobody c.loop-i-test.true c.loop-i.invariant here

pub returns : goal.returns
returns c =
    let all = c.args.candidates.now in
    subst (All (IsCandidate 4)) (take_all c.loop-i.i all (omega (arith, c.loop-i-test.false)))
    c.loop-i.invariant
