use Rattle.std.proofs.Common.{◌+◌, set, ap, ◌∙◌}
use Rattle.mf_journal.proofs.Shreds.{shred_more}
use Rattle.mf_journal.proofs.contents.shred.Goals as goal

pub loop-i-preserved : goal.loop-i-preserved
loop-i-preserved c =
    let i = c.loop-i.i in
    ap (λ list. set list (c.args.at + i) c.kept_byte.result) c.loop-i.invariant
    ∙ shred_more c.args.at i c.kept_byte.result c.args.bytes.now c.args.list.now.items
    c.loop-i-test.true c.requires c.kept_byte.ensures
