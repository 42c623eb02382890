use Rattle.mf_gate.specs.Passes.{about}
use Rattle.mf_shared.proofs.shared.Shared.into_plain.Given as goal

abbrev pub ghost-pick : goal.ghost-pick
ghost-pick a = record { bytes = (about a.from.now).bytes; losses = (about a.from.now).losses }
