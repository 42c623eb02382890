use Rattle.mf_plain.proofs.access.PlainAccess.finish.Given as goal

abbrev pub ghost-pick : goal.ghost-pick
ghost-pick a = a.from.now.known.value.told
