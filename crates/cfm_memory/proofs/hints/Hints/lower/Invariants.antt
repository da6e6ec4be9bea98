-- The rows so far are lowered, and the others are as they were.
use Rattle.std.proofs.Common.{◌≡◌, ◌<◌, ◌≤◌, ℕ, get_or, length}
use Rattle.cfm_memory.specs.Kept.Searches.{lowered}
use Rattle.cfm_memory.specs.declared.hints.Hint.{Hint}
use Rattle.cfm_memory.proofs.hints.Hints.lower.Given as goal

abbrev pub invariant-loop-i : goal.invariant-loop-i
invariant-loop-i l = record {
  len : length l.self.rows ≡ length l.fn.self.rows;
  done : (k : ℕ) (d : Hint) → k < l.i → get_or l.self.rows k d ≡ lowered l.address (get_or l.fn.self.rows k d);
  rest : (k : ℕ) (d : Hint) → l.i ≤ k → get_or l.self.rows k d ≡ get_or l.fn.self.rows k d;
}
