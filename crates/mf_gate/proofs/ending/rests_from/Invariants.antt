use Rattle.std.proofs.Common.{◌≡◌, ℕ, ◌+◌, ◌<◌, ◌≤◌, IsTrue, false, length, slice_index, slice_index_or, None}
use Rattle.std.specs.Mem.Slots.{slots_items, slots_filled, slots_len}
use Rattle.mf_vault.specs.declared.answers.Rest.TheVariants as rest
use Rattle.mf_gate.specs.Resting.{rest_from}
use Rattle.mf_gate.proofs.ending.rests_from.Given as goal

abbrev pub invariant-loop-n : goal.invariant-loop-n
invariant-loop-n l = record {
  so_long : length l.names.items ≡ length l.fn.names.items;
  words : l.ended.words ≡ l.fn.ended.words;
  items : slots_items l.ended.slots ≡ slots_items l.fn.ended.slots;
  slots : slots_len l.ended.slots ≡ slots_len l.fn.ended.slots;
  left : (j : ℕ) → l.n ≤ j → j < slots_len l.fn.ended.slots
      → IsTrue (slice_index_or (slots_filled l.ended.slots) j false);
  taken : (j : ℕ) → j < l.n → slice_index_or (slots_filled l.ended.slots) j false ≡ false;
  names_are : (j : ℕ) → j < l.n → slice_index_or l.names.items j rest.Unborn
      ≡ rest_from (slice_index (slots_items l.fn.ended.words) (l.before + j))
      (slice_index_or (slots_items l.fn.ended.slots) j None);
}
