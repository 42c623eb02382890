use Rattle.mf_journal.specs.Memory.{fresh, left_by}
use Rattle.mf_journal.proofs.memory.MemoryDisk.after_crash.Given as goal

abbrev pub ghost-pick : goal.ghost-pick
ghost-pick a = fresh (left_by a.from.now.value.origin.first a.from.now.value.log.writes) 0
