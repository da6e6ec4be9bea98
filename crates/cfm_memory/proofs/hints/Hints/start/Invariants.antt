-- So far the address is the first one, or that of a hint that serves.
use Rattle.cfm_memory.specs.Kept.Searches.{IsStart}
use Rattle.cfm_memory.proofs.hints.Hints.start.Given as goal

abbrev pub invariant-loop-hint : goal.invariant-loop-hint
invariant-loop-hint l = IsStart l.self.rows l.taken l.step l.from
