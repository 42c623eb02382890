use Rattle.std.proofs.Common.{◌≡◌, ◌+◌, ◌<◌, ◌≤◌, ◌↔◌, ℕ, true, false, length, slice_index, slice_index_or}
use Rattle.std.specs.Mem.Slots.{slots_items}
use Rattle.mf_machine.specs.Words.{closed_bit}
use Rattle.mf_gate.proofs.ending.close_from.Given as goal

abbrev pub invariant-loop-g : goal.invariant-loop-g
invariant-loop-g l = record {
  so_long : length l.closed.items ≡ length l.fn.closed.items;
  below : (g : ℕ) → g < l.g → (slice_index_or l.closed.items g false ≡ true)
      ↔ (closed_bit ≤ slice_index (slots_items l.ended.words) (g + 2));
}
