use Rattle.mf_journal.specs.Memory.{fresh}
use Rattle.mf_file.proofs.file.FileDisk.new.Given as goal

abbrev pub ghost-pick : goal.ghost-pick
ghost-pick types a = fresh a.from.now.items 0
