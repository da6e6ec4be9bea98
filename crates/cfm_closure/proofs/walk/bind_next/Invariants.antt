-- The rest of the fragment stays the same.
use Rattle.std.proofs.Common.{◌≡◌, ℕ, ◌-◌, List, length}
use Rattle.cfm_closure.specs.Kept.Paths.{IsFrame, IsSameFrame, count_of, rest_of_frame}
use Rattle.cfm_closure.specs.Kept.Views.{AreKept, AreRead}
use Rattle.cfm_closure.proofs.walk.bind_next.Given as goal

abbrev pub invariant-loop-library : goal.invariant-loop-library
invariant-loop-library l = record {
  size : length l.fragments ≡ length l.store;
  read : AreRead l.store l.fragments;
  kept : AreKept l.fn.fragments l.fragments;
  frame : IsFrame l.store l.fragments l.frame;
  same : IsSameFrame l.fn.frame l.frame;
  rest : (order : List ℕ) → rest_of_frame l.store l.fn.frame (record { marked = l.marked; order = order }) ≡ rest_of_frame l.store l.frame (record { marked = l.marked; order = order });
}

abbrev pub decreases-loop-library : goal.decreases-loop-library
decreases-loop-library l = count_of l.frame - length l.frame.libraries
