-- The empty cells before this one, of those that are to be painted, are painted.
use Rattle.std.specs.Prelude.{◌-◌, ◌≤◌, length, min}
use Rattle.pef_loader.specs.Kept.Blocks.{AreSteps, IsPainted}
use Rattle.pef_loader.proofs.painting.paint.Given as goal

abbrev pub invariant-loop-k : goal.invariant-loop-k
invariant-loop-k l = record {
  from : l.fn.imports.start ≤ l.k;
  within : l.k ≤ length l.cells;
  painted : IsPainted l.fn.cells l.cells l.fn.imports.start (min l.k l.fn.imports.end) l.library;
  steps : AreSteps l.cells l.steps;
}

abbrev pub decreases-loop-k : goal.decreases-loop-k
decreases-loop-k l = length l.cells - l.k
