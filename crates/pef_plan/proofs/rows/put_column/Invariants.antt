use Rattle.std.proofs.Common.{◌≡◌, ◌≤◌, ◌+◌, ◌*◌, ◌<◌, ℕ, length, slice_index}
use Rattle.pef_plan.specs.Kept.Rows.{LowersIn}
use Rattle.pef_plan.specs.Runs.Tables.{number_in}
use Rattle.pef_plan.proofs.rows.put_column.Given as goal

-- the numbers up to a class of C are written
abbrev pub invariant-classes : goal.invariant-classes
invariant-classes l = record {
  small : l.saved ≤ l.c * 4294967296;
  len : length l.row ≡ length l.fn.row;
  lowers : LowersIn (length l.known.registers.now + 1) (λ c d. d ≡ l.class) l.fn.row l.row l.saved;
  done : (c : ℕ) → c < l.c → number_in (length l.known.registers.now + 1) l.row c l.class ≡ slice_index l.column c;
  left : (c : ℕ) → l.c ≤ c → c < length l.known.registers.now + 1 → number_in (length l.known.registers.now + 1) l.row c l.class ≡ number_in (length l.known.registers.now + 1) l.fn.row c l.class;
}
