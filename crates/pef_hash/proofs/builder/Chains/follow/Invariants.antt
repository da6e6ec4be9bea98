-- The words of the slot that are left are those from the next one on, which is in the slot.
use Rattle.std.proofs.Common.{◌≡◌, ◌-◌, ◌++◌, length, drop}
use Rattle.pef_hash.specs.Build.{in_slot, keys_at}
use Rattle.pef_hash.proofs.SlotLists.{Leads}
use Rattle.pef_hash.proofs.builder.Chains.follow.Given as goal

abbrev pub invariant-loop-at : goal.invariant-loop-at
invariant-loop-at l = record {
  leads : Leads l.self.power l.slot l.at l.self.words.now;
  order : l.order.items ++ in_slot l.self.power l.slot l.at (drop l.at l.self.words.now) ≡ l.fn.order.items ++ in_slot l.self.power l.slot 0 l.self.words.now;
  keys : l.keys.items ≡ keys_at l.self.words.now l.order.items;
}

abbrev pub decreases-loop-at : goal.decreases-loop-at
decreases-loop-at l = length l.self.words.now - l.at
