-- What was added and what is left are all, and the parts passed end where they end.
use Rattle.std.proofs.Common.{◌≡◌, ◌++◌, [], drop, take}
use Rattle.pef_inspect.specs.Extents.{greatest_end, parts_notes}
use Rattle.pef_inspect.proofs.extents.compare.Given as goal

abbrev pub invariant-loop-extent : goal.invariant-loop-extent
invariant-loop-extent g l = record {
  ends : l.end ≡ greatest_end (take l.extent-index l.extents);
  notes : l.found.items ++ parts_notes (g.P.NotedParts.note l.parts) (take l.extent-index l.extents) (drop l.extent-index l.extents) ≡ l.fn.found.items ++ parts_notes (g.P.NotedParts.note l.parts) [] l.extents;
}
