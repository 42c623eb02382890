use Rattle.std.proofs.Common.{sym, ◌∙◌}
use Rattle.mf_read.proofs.Entries.{lost_push, lost_stay, any_entry}
use Rattle.mf_read.proofs.short.lost_names.Goals.{in-Some+in_ok-push, in_default}
use Rattle.mf_read.proofs.short.lost_names.Goals as goal

pub loop-entry-preserved : goal.loop-entry-preserved
loop-entry-preserved c = elim c.match-lost.branch [
  | in-Some+in_ok-push w ↦
      rw w.items-is (w.in_ok-push.ensures.items
      ∙ lost_push c.args.entries.now c.loop-entry.entry-index any_entry c.loop-entry.items.items w.in-Some.name
      c.loop-entry-test.true c.loop-entry.invariant
      (sym w.in-Some.is ∙ c.lost.ensures))
  | in_default w ↦
      rw w.items-is (lost_stay c.args.entries.now c.loop-entry.entry-index any_entry c.loop-entry.items.items
      c.loop-entry-test.true c.loop-entry.invariant
      (sym w.in_default.is ∙ c.lost.ensures))
]
