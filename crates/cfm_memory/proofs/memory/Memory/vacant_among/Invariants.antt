-- So far no lower address is vacant, and the ranges that were passed end below the address.
use Rattle.std.proofs.Common.{◌<◌, ◌^◌, take}
use Rattle.cfm_memory.specs.Kept.Searches.{AllPassed}
use Rattle.cfm_memory.proofs.Reserving.{IsLeast}
use Rattle.cfm_memory.proofs.memory.Memory.vacant_among.Given as goal

abbrev pub invariant-loop-range : goal.invariant-loop-range
invariant-loop-range l = record {
  bound : l.address < 2 ^ 33;
  least : IsLeast l.self.granule l.taken l.step l.from l.self.instances l.ranges l.address;
  passed : AllPassed l.address (take l.range-index l.ranges);
}
