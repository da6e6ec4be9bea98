use Rattle.std.proofs.Common.{◌≡◌, ◌+◌, drop}
use Rattle.pef_pidata.specs.Kept.Runs.{zeros_first}
use Rattle.pef_pidata.proofs.packing.zeros_len.Given as goal

abbrev pub invariant-loop-i : goal.invariant-loop-i
invariant-loop-i l = l.i + zeros_first (drop l.i l.image) ≡ zeros_first l.image
