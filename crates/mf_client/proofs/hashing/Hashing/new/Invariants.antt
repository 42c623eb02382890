use Rattle.std.proofs.Common.{[]}
use Rattle.mf_client.proofs.hashing.Hashing.new.Given as goal

abbrev pub ghost-pick : goal.ghost-pick
ghost-pick a = []
