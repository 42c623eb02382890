use Rattle.mf_plain.specs.Standing.{first_known}
use Rattle.mf_plain.proofs.access.PlainAccess.new.Given as goal

abbrev pub ghost-pick : goal.ghost-pick
ghost-pick a = first_known a.from.now.0.now a.from.now.1.now
