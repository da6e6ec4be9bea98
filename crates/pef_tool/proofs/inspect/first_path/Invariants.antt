-- The bytes so far begin the first path.
use Rattle.std.proofs.Common.{◌≡◌, drop, take}
use Rattle.pef_tool.specs.Inspect.{listed_paths}
use Rattle.pef_tool.proofs.PathLemmas.{extended}
use Rattle.pef_tool.proofs.inspect.first_path.Given as goal

abbrev pub invariant-loop-i : goal.invariant-loop-i
invariant-loop-i l = listed_paths l.list ≡ extended (take l.i l.list) (listed_paths (drop l.i l.list))
