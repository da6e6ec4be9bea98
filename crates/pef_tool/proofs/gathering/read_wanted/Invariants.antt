use Rattle.std.proofs.Common.{map, take}
use Rattle.pef_tool.specs.Gathering.{WereGathered}
use Rattle.pef_tool.specs.Kept.Gathering.{read_seen, wanted_seen}
use Rattle.pef_tool.proofs.gathering.read_wanted.Given as goal

-- the first files were read
abbrev pub invariant-loop-file : goal.invariant-loop-file
invariant-loop-file g l = WereGathered (record { state = g.F.Files.state; reason = g.F.Files.reason; was_read = g.F.Files.was_read; was_written = g.F.Files.was_written })
    l.fn.files l.files (map wanted_seen (take l.file-index l.wanted)) (map read_seen l.read.items)
