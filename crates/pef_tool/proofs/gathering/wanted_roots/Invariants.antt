-- The first files are wanted.
use Rattle.std.proofs.Common.{◌≡◌, map, take}
use Rattle.pef_request.specs.Requests.{operand_path}
use Rattle.pef_tool.specs.Gathering.{wanted_root}
use Rattle.pef_tool.specs.Kept.Gathering.{wanted_seen}
use Rattle.pef_tool.proofs.gathering.wanted_roots.Given as goal

abbrev pub invariant-loop-operand : goal.invariant-loop-operand
invariant-loop-operand l = map wanted_seen l.wanted.items ≡ map wanted_root (map operand_path (take l.operand-index l.operands))
