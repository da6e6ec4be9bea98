use Rattle.std.proofs.Common.{◌≡◌, ◌+◌, ◌<◌, length}
use Rattle.pef_cert.specs.Labels.{Labels}
use Rattle.pef_plan.specs.Runs.Tables.{Agrees, number_in, place_of}
use Rattle.pef_plan.specs.Kept.Rows.{DirectIs}
use Rattle.pef_plan.proofs.DirectLemmas.{Lowered}
use Rattle.pef_plan.proofs.ImportLemmas.{LeastImports}
use Rattle.pef_plan.proofs.rows.lower_by_imports.Given as goal

-- the numbers up to a place are lowered
abbrev pub invariant-places : goal.invariant-places
invariant-places l = record {
  len : length l.row ≡ length l.fn.row;
  place : l.place ≡ place_of (length l.known.registers.now + 1) l.c l.d;
  d : l.d < length l.known.registers.now + 1;
  lowered : Lowered (length l.known.registers.now + 1) (λ c d v. v ≡ number_in (length l.known.registers.now + 1) l.fn.row c d)
      (λ c d v. DirectIs l.known l.at c d v × ((labels : Labels) → Agrees labels l.known l.at.others.now → LeastImports labels l.at c d (number_in (length l.known.registers.now + 1) l.fn.row c d) v))
      (λ c d. place_of (length l.known.registers.now + 1) c d < l.place) l.row;
}
