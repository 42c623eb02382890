use Rattle.std.proofs.Common.{◌++◌}
use Rattle.mf_client.proofs.hashing.HashingTaker.take.Given as goal

abbrev pub ghost-pick : goal.ghost-pick
ghost-pick a = a.from.now.1.now.bytes.value ++ a.from.now.0.now
