use Rattle.std.proofs.Common.{◌≡◌, drop}
use Rattle.pef_labels.specs.Rising.{above_all}
use Rattle.pef_labels.proofs.rows.ends_rise.Given as goal

abbrev pub invariant-loop-end : goal.invariant-loop-end
invariant-loop-end l = above_all l.low (drop l.end-index l.ends) ≡ above_all 0 l.ends
