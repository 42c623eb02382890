use Rattle.std.proofs.Common.{◌∷◌}
use Rattle.mf_file.specs.Calls.{put}
use Rattle.mf_file.proofs.raw.HostRawFile.put.Given as goal

abbrev pub ghost-pick : goal.ghost-pick
ghost-pick a = put a.from.now.1 a.from.now.2.now a.from.now.0 ∷ a.from.now.3.now.value
