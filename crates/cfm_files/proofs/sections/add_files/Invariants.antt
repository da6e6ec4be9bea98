-- The files so far, and those of the other sections, are all files.
use Rattle.std.proofs.Common.{◌≡◌, ◌++◌, drop, map}
use Rattle.cfm_prepare.specs.Fragments.{places_of}
use Rattle.cfm_files.specs.Sections.{file_seen, files_from, fragment_files, fragment_name}
use Rattle.cfm_files.proofs.sections.add_files.Given as goal

abbrev pub invariant-loop-i : goal.invariant-loop-i
invariant-loop-i l =
    map file_seen l.files.items ++ files_from l.context.memory l.folder (fragment_name l.context l.position) l.i (drop l.i (places_of l.context.present l.position))
    ≡ map file_seen l.fn.files.items ++ fragment_files l.context l.folder l.position
