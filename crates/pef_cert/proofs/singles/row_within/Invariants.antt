use Rattle.std.proofs.Common.{◌+◌, ◌<◌, ◌≤◌, ℕ, slice_index}
use Rattle.pef_cert.specs.Fixups.Answers.{Says}
use Rattle.pef_cert.proofs.singles.row_within.Given as goal

abbrev pub invariant-loop-place : goal.invariant-loop-place
invariant-loop-place l = Says l.all ((k : ℕ) → k < l.place → slice_index l.row k ≤ l.cost + slice_index l.others k)
