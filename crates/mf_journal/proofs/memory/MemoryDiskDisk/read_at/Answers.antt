use Rattle.std.proofs.Common.{refl}
use Rattle.mf_journal.proofs.Time.{goes, one_of}
use Rattle.mf_journal.proofs.memory.MemoryDiskDisk.read_at.Goals as goal

pub returns-then-fails-clause-time : goal.returns-then-fails-clause-time
returns-then-fails-clause-time c = goes _ _ (one_of _ _ _ _ refl refl) _ c.pick-history.ensures

pub returns-clause-time : goal.returns-clause-time
returns-clause-time c = goes _ _ (one_of _ _ _ _ refl refl) _ c.pick-history.ensures
