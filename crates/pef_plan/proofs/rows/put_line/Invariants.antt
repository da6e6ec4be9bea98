use Rattle.std.proofs.Common.{◌≡◌, ◌≤◌, ◌+◌, ◌*◌, ◌<◌, ℕ, length, slice_index}
use Rattle.pef_plan.specs.Kept.Rows.{LowersIn}
use Rattle.pef_plan.specs.Runs.Tables.{number_in}
use Rattle.pef_plan.proofs.rows.put_line.Given as goal

-- the numbers up to a class of D are written
abbrev pub invariant-classes : goal.invariant-classes
invariant-classes l = record {
  small : l.saved ≤ l.d * 4294967296;
  len : length l.row ≡ length l.fn.row;
  lowers : LowersIn (length l.known.registers.now + 1) (λ c d. c ≡ l.class) l.fn.row l.row l.saved;
  done : (d : ℕ) → d < l.d → number_in (length l.known.registers.now + 1) l.row l.class d ≡ slice_index l.line d;
  left : (d : ℕ) → l.d ≤ d → d < length l.known.registers.now + 1 → number_in (length l.known.registers.now + 1) l.row l.class d ≡ number_in (length l.known.registers.now + 1) l.fn.row l.class d;
}
