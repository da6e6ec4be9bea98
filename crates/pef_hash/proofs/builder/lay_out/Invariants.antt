-- What was laid out so far, and the slots that are left, are the table.
use Rattle.std.proofs.Common.{◌≡◌, ◌++◌, ◌-◌, ◌^◌, length}
use Rattle.pef_hash.specs.Build.{in_slots, keys_at, slot_words}
use Rattle.pef_hash.proofs.builder.lay_out.Given as goal

abbrev pub invariant-loop-slot : goal.invariant-loop-slot
invariant-loop-slot l = record {
  order : l.order.items ++ in_slots l.power l.words l.slot (2 ^ l.power - l.slot) ≡ in_slots l.power l.words 0 (2 ^ l.power);
  slots : l.slots.items ++ slot_words l.power l.words l.slot (length l.order.items) (2 ^ l.power - l.slot) ≡ slot_words l.power l.words 0 0 (2 ^ l.power);
  keys : l.keys.items ≡ keys_at l.words l.order.items;
}
