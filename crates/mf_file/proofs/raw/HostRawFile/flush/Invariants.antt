use Rattle.std.proofs.Common.{◌∷◌}
use Rattle.mf_file.specs.Calls.{flushed}
use Rattle.mf_file.proofs.raw.HostRawFile.flush.Given as goal

abbrev pub ghost-pick : goal.ghost-pick
ghost-pick a = flushed a.from.now.0 ∷ a.from.now.1.now.value
