-- The first files are given.
use Rattle.std.proofs.Common.{◌≡◌, map, take}
use Rattle.pef_gather.specs.Seen.{given_seen}
use Rattle.pef_tool.specs.Kept.Gathering.{read_seen}
use Rattle.pef_tool.proofs.gathering.given_files.Given as goal

abbrev pub invariant-loop-file : goal.invariant-loop-file
invariant-loop-file l = map given_seen l.given.items ≡ map read_seen (take l.file-index l.read)
