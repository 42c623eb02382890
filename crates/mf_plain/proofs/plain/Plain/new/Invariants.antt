use Rattle.std.proofs.Common.{◌≡◌, [], replicate}
use Rattle.mf_vault.specs.declared.answers.Rest.TheVariants as rest
use Rattle.mf_plain.proofs.plain.Plain.new.Given as goal

abbrev pub ghost-pick : goal.ghost-pick
ghost-pick a = record { bytes = a.from.now.now; losses = [] }

abbrev pub invariant-loop : goal.invariant-loop
invariant-loop l = l.names.items ≡ replicate l.counter rest.Unborn
