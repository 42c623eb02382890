use Rattle.std.proofs.Common.{refl}
use Rattle.mf_journal.proofs.Time.{goes, one_of}
use Rattle.mf_file.proofs.file.FileDiskDisk.length.Goals as goal

pub returns-then-self-clause-time : goal.returns-then-self-clause-time
returns-then-self-clause-time g c = goes _ _ (one_of _ _ _ _ refl refl) _ c.pick-history.ensures

pub returns-clause-time : goal.returns-clause-time
returns-clause-time g c = goes _ _ (one_of _ _ _ _ refl refl) _ c.pick-history.ensures
