use Rattle.std.proofs.Common.{◌≡◌, ◌<◌, ℕ, length, slice_index_or, None}
use Rattle.mf_vault.specs.declared.answers.Rest.TheVariants as rest
use Rattle.mf_gate.specs.Resting.{slot_of}
use Rattle.mf_gate.proofs.making.slots_of.Given as goal

abbrev pub invariant-loop-rest : goal.invariant-loop-rest
invariant-loop-rest l = record {
  so_long : length l.slots.items ≡ l.rest-index;
  filled : (n : ℕ) → n < l.rest-index
      → slice_index_or l.slots.items n None ≡ slot_of (slice_index_or l.names n rest.Unborn);
}
