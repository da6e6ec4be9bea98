-- The first stubs have their paths.
use Rattle.std.proofs.Common.{◌≡◌, map, take}
use Rattle.pef_tool.specs.Kept.StubFiles.{file_seen}
use Rattle.pef_tool.specs.WriteStubs.{stub_file}
use Rattle.pef_tool.proofs.write_stubs.stub_files_in.Given as goal

abbrev pub invariant-loop-stub : goal.invariant-loop-stub
invariant-loop-stub l = map file_seen l.found.items ≡ map (stub_file l.folder) (take l.stub-index l.stubs)
