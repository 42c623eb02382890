use Rattle.std.proofs.Common.{◌≡◌, ◌+◌, ◌*◌, ◌<◌, ℕ, length, slice_index, slice_index_or, false}
use Rattle.mf_machine.specs.Counts.{truth}
use Rattle.mf_machine.specs.Words.{closed_bit}
use Rattle.mf_gate.proofs.making.gate_words.Given as goal

abbrev pub invariant-loop-shut : goal.invariant-loop-shut
invariant-loop-shut l = record {
  so_long : length l.words.items ≡ l.shut-index + 2;
  number : slice_index l.words.items 0 ≡ l.published;
  right : slice_index l.words.items 1 ≡ 0;
  below : (g : ℕ) → g < l.shut-index
      → slice_index l.words.items (g + 2) ≡ closed_bit * truth (slice_index_or l.closed g false);
}
