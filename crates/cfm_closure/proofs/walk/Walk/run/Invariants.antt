-- The rest of the path stays the same.
use Rattle.std.proofs.Common.{◌≡◌}
use Rattle.cfm_closure.specs.Kept.Paths.{IsWalk, rest_of_path, state_of, steps_left}
use Rattle.cfm_closure.proofs.walk.Walk.run.Given as goal

abbrev pub invariant-loop-frame : goal.invariant-loop-frame
invariant-loop-frame l = record {
  walk : IsWalk l.store l.self;
  rest : rest_of_path l.store l.fn.self.path.items (state_of l.fn.self) ≡ rest_of_path l.store l.self.path.items (state_of l.self);
}

abbrev pub decreases-loop-frame : goal.decreases-loop-frame
decreases-loop-frame l = steps_left l.self
