use Rattle.std.proofs.Common.{if◌then◌else◌}
use Rattle.mf_journal.specs.Calls.{after, failed}
use Rattle.mf_journal.specs.Calls as call
use Rattle.mf_journal.specs.Memory.{next}
use Rattle.mf_file.proofs.file.FileDiskDisk.sync.Given as goal

abbrev pub ghost-pick : goal.ghost-pick
ghost-pick types a =
    let k = a.from.now.1.now.value in
    next (if a.from.now.0 then failed k.log else after call.sync k.log) k
