-- The files so far, and those of the other fragments, are all files.
use Rattle.std.proofs.Common.{◌≡◌, ◌++◌, drop, map}
use Rattle.cfm_files.specs.Sections.{file_seen, section_files}
use Rattle.cfm_files.proofs.sections.section_files.Given as goal

abbrev pub invariant-loop-position : goal.invariant-loop-position
invariant-loop-position l = map file_seen l.files.items ++ section_files l.context l.folder (drop l.position-index l.order) ≡ section_files l.context l.folder l.order
