-- The keys so far are hashed, and their names have the lengths that were subtracted.
use Rattle.std.proofs.Common.{◌≡◌, ℕ, ◌+◌, ◌<◌, length}
use Rattle.pef_hash.specs.Regular.{names_length}
use Rattle.pef_hash.specs.Views.{table_of}
use Rattle.pef_hash.specs.Kept.Searches.{IsHashed}
use Rattle.pef_hash.proofs.exports.Exports.has_hashed_keys.Given as goal

abbrev pub invariant-loop-i : goal.invariant-loop-i
invariant-loop-i l = record {
  hashed : (k : ℕ) → k < l.i → IsHashed (table_of l.self) k;
  rest : l.left + names_length (table_of l.self) l.i ≡ length l.self.strings.now;
}
