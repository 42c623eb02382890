use Rattle.std.proofs.Common.{◌≡◌, ◌<◌, ap, sym, ◌∙◌, subst, arith}
use Rattle.mf_places.specs.Facts.{BookFacts}
use Rattle.mf_read.specs.Reading.{stripes}
use Rattle.mf_repair.proofs.Mended.{stripes_more, stripes_end}
use Rattle.mf_repair.proofs.repairing.repair_stripes.Goals as goal

pub returns-in-Err-clause-repairs : goal.returns-in-Err-clause-repairs
returns-in-Err-clause-repairs g c =
    let a = g.A.Access.actor c.args.access.now in
    let end = c.stripes-j-end.ensures ∙ ap (λ (b : BookFacts). stripes b c.args.g) c.book.ensures in
    stripes_end c.in-Err.outcome c.loop-j.invariant (subst (λ n. c.loop-j.j < n) end c.loop-j-test.true)
    c.in-Err.ensures.repairs

pub loop-j-preserved : goal.loop-j-preserved
loop-j-preserved g c = stripes_more c.loop-j.invariant c.in_default.ensures.repairs c.in_default.ensures.stays
