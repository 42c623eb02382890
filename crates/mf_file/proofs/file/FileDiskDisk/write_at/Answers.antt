use Rattle.mf_journal.proofs.Time.{goes_by_write}
use Rattle.mf_file.proofs.file.FileDiskDisk.write_at.Goals as goal

pub returns-then-lost-clause-time : goal.returns-then-lost-clause-time
returns-then-lost-clause-time g c =
    goes_by_write c.is_lost-lost.result c.write_fails-fails.result c.args.at c.args.bytes.now _ _
    c.pick-history.ensures

pub returns-then-fails-clause-time : goal.returns-then-fails-clause-time
returns-then-fails-clause-time g c =
    goes_by_write c.is_lost-lost.result c.write_fails-fails.result c.args.at c.args.bytes.now _ _
    c.pick-history.ensures

pub returns-clause-time : goal.returns-clause-time
returns-clause-time g c =
    goes_by_write c.is_lost-lost.result c.write_fails-fails.result c.args.at c.args.bytes.now _ _
    c.pick-history.ensures
