-- What is left after the programs so far.
use Rattle.std.proofs.Common.{◌≡◌, ◌-◌}
use Rattle.cfm_prepare.specs.Kept.Bounds.{left_of}
use Rattle.pef_loader.specs.Loader.{reloc_of}
use Rattle.pef_loader.specs.Views.{loaded}
use Rattle.pef_reloc.specs.Headers.{steps_by}
use Rattle.cfm_prepare.proofs.bounds.left_after_programs.Given as goal

abbrev pub invariant-loop-i : goal.invariant-loop-i
invariant-loop-i l =
    left_of l.left (steps_by (reloc_of (loaded l.loader)) l.i ((loaded l.loader).header.reloc_count - l.i))
    ≡ left_of l.steps (steps_by (reloc_of (loaded l.loader)) 0 (loaded l.loader).header.reloc_count)
