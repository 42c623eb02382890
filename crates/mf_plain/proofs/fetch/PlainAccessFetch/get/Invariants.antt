use Rattle.mf_vault.specs.Actor as call
use Rattle.mf_plain.specs.Whole.{next}
use Rattle.mf_plain.proofs.fetch.PlainAccessFetch.get.Given as goal

abbrev pub ghost-pick : goal.ghost-pick
ghost-pick a = next (call.get a.from.now.0 a.from.now.1.now) a.from.now.2.now
