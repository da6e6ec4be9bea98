-- The first files follow those before.
use Rattle.std.proofs.Common.{◌≡◌, ◌++◌, map, take}
use Rattle.pef_tool.specs.Gathering.{wanted_library}
use Rattle.pef_tool.specs.Kept.Gathering.{wanted_seen}
use Rattle.pef_tool.proofs.gathering.add_libraries.Given as goal

abbrev pub invariant-loop-path : goal.invariant-loop-path
invariant-loop-path l = map wanted_seen l.wanted.items ≡ map wanted_seen l.fn.wanted.items ++ map wanted_library (map (λ path. path.now) (take l.path-index l.paths))
