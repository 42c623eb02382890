use Rattle.mf_vault.specs.Actor as call
use Rattle.mf_plain.specs.Whole.{next}
use Rattle.mf_plain.proofs.calls.PlainAccessAccess.unpin.Given as goal

abbrev pub ghost-pick : goal.ghost-pick
ghost-pick a = next (call.unpin a.from.now.0) a.from.now.1.now
