use Rattle.mf_shared.proofs.shared.Shared.of_plain.Given as goal

abbrev pub ghost-pick : goal.ghost-pick
ghost-pick a = a.from.now.value.bytes
