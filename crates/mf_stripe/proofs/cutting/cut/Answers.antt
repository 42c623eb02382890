use Rattle.std.proofs.Common.{length, ap, ◌∙◌, arith}
use Rattle.mf_stripe.proofs.Cuts.{cut-more, cut-all, length-chunks, lengths-chunks}
use Rattle.mf_stripe.proofs.cutting.cut.Goals as goal

pub loop-i-preserved : goal.loop-i-preserved
loop-i-preserved c =
    let a = c.args in
    cut-more a.chunk a.bytes.now c.loop-i.i c.min-end.result c.loop-i.cut.items c.push.new.self.items
    c.in_ok-filled.field-0
    (omega arith) c.requires (omega arith) c.in_ok-filled.ensures c.loop-i.invariant c.in_ok-push.ensures.items

pub returns-clause-value : goal.returns-clause-value
returns-clause-value c =
    cut-all c.args.chunk c.args.bytes.now c.loop-i.i c.loop-i.cut.items (omega arith) c.loop-i.invariant

pub returns-clause-count : goal.returns-clause-count
returns-clause-count c = ap length (returns-clause-value c) ∙ length-chunks c.args.chunk c.args.bytes.now

pub returns-clause-lengths : goal.returns-clause-lengths
returns-clause-lengths c = rw (returns-clause-value c) (lengths-chunks c.args.chunk c.args.bytes.now)
