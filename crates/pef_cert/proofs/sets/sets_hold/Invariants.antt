use Rattle.std.proofs.Common.{◌<◌, ℕ}
use Rattle.pef_cert.specs.Kept.Sets.{LinesHold}
use Rattle.pef_cert.proofs.sets.sets_hold.Given as goal

abbrev pub invariant-loop-k : goal.invariant-loop-k
invariant-loop-k l = (k : ℕ) → k < l.k → LinesHold l.row l.classes k
