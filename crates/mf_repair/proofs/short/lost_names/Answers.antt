use Rattle.std.proofs.Common.{sym, ◌∙◌}
use Rattle.mf_repair.proofs.Telling.{found_once, any_entry}
use Rattle.mf_repair.proofs.short.lost_names.Goals as goal

pub loop-entry-preserved : goal.loop-entry-preserved
loop-entry-preserved c =
    found_once c.args.entries.now c.loop-entry.entry-index any_entry c.loop-entry.items.items
    c.keep_once.new.items.items
    c.lost.result c.loop-entry-test.true c.loop-entry.invariant c.lost.ensures c.in_ok-keep_once.ensures
