use Rattle.std.proofs.Common.{if◌then◌else◌}
use Rattle.mf_journal.specs.Calls.{after, lost, tried}
use Rattle.mf_journal.specs.Calls as call
use Rattle.mf_journal.specs.Memory.{next}
use Rattle.mf_file.proofs.file.FileDiskDisk.write_at.Given as goal

abbrev pub ghost-pick : goal.ghost-pick
ghost-pick types a =
    let k = a.from.now.4.now.value in
    let at = a.from.now.2 in
    let bytes = a.from.now.3.now in
    next (if a.from.now.0 then lost k.log else if a.from.now.1 then tried at bytes k.log
    else after (call.write at bytes) k.log) k
