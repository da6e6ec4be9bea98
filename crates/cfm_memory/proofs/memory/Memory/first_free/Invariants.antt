-- The first free address after the instances so far is the first of all.
use Rattle.std.proofs.Common.{◌≡◌, ℕ, ◌%◌, ◌^◌, ◌<◌, map}
use Rattle.cfm_memory.specs.Placement.{IsLaidOut}
use Rattle.cfm_memory.specs.Views.{instance_seen}
use Rattle.cfm_memory.specs.Kept.Searches.{IsFirstFree}
use Rattle.cfm_memory.proofs.memory.Memory.first_free.Given as goal

abbrev pub invariant-loop-start : goal.invariant-loop-start
invariant-loop-start l = record {
  aligned : l.address % l.step ≡ 0;
  bound : l.address < 2 ^ 33;
  laid_out : (from : ℕ) × IsLaidOut l.self.granule from (2 ^ 32) (map instance_seen l.start-iterator);
  rest : (r : ℕ) → IsFirstFree l.self.granule l.taken l.step l.address (map instance_seen l.start-iterator) r → IsFirstFree l.self.granule l.taken l.step l.from l.self.instances r;
}
