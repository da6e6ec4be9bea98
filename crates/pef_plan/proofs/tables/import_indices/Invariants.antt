use Rattle.std.proofs.Common.{◌≡◌, ◌<◌, ℕ, length, slice_index, take}
use Rattle.pef_reloc.specs.Deliveries.{index_after}
use Rattle.pef_plan.proofs.tables.import_indices.Given as goal

abbrev pub invariant-loop-at : goal.invariant-loop-at
invariant-loop-at l = record {
  count : length l.indices.items ≡ l.at;
  index : l.index ≡ index_after (take l.at l.fixups) 0;
  at : (i : ℕ) → i < l.at → slice_index l.indices.items i ≡ index_after (take i l.fixups) 0;
}
