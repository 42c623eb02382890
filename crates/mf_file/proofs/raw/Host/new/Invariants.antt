use Rattle.std.proofs.Common.{[]}
use Rattle.mf_file.proofs.raw.Host.new.Given as goal

abbrev pub ghost-pick : goal.ghost-pick
ghost-pick a = []
