use Rattle.std.proofs.Common.{◌*◌, ◌≤◌, length}
use Rattle.pef_labels.specs.Rows.{NeighboursDiffer}
use Rattle.pef_labels.proofs.rows.neighbours_differ.Given as goal

abbrev pub invariant-rows : goal.invariant-rows
invariant-rows l = record {
  long : l.width * l.left ≤ length l.rest;
  all : NeighboursDiffer l.width l.left l.rest → NeighboursDiffer l.width l.fn.count l.values;
  rest : NeighboursDiffer l.width l.fn.count l.values → NeighboursDiffer l.width l.left l.rest;
}

abbrev pub decreases-rows : goal.decreases-rows
decreases-rows l = l.left
