use Rattle.std.proofs.Common.{◌≡◌, ◌+◌, ◌*◌, ◌<◌, ℕ, length, slice_index, slice_index_or, false}
use Rattle.mf_machine.specs.Counts.{truth}
use Rattle.mf_machine.specs.Words.{closed_bit}
use Rattle.mf_vault.specs.declared.answers.Rest.TheVariants as rest
use Rattle.mf_gate.specs.Resting.{IsNameWord}
use Rattle.mf_gate.proofs.making.words_of.Given as goal

abbrev pub invariant-loop-rest : goal.invariant-loop-rest
invariant-loop-rest l = record {
  so_long : length l.words.items ≡ length l.closed + 2 + l.rest-index;
  number : slice_index l.words.items 0 ≡ l.published;
  right : slice_index l.words.items 1 ≡ 0;
  below : (g : ℕ) → g < length l.closed
      → slice_index l.words.items (g + 2) ≡ closed_bit * truth (slice_index_or l.closed g false);
  names_are : (n : ℕ) → n < l.rest-index → IsNameWord (slice_index_or l.names n rest.Unborn)
      (slice_index l.words.items (length l.closed + 2 + n));
}
