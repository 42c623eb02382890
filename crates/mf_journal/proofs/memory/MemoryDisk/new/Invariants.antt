use Rattle.std.proofs.Common.{[]}
use Rattle.mf_journal.specs.Memory.{fresh}
use Rattle.mf_journal.proofs.memory.MemoryDisk.new.Given as goal

abbrev pub ghost-pick : goal.ghost-pick
ghost-pick a = fresh [] a.from.now
