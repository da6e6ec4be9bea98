-- Of the exports before this one it is the nearest.
use Rattle.pef_loader.specs.Views.{loaded}
use Rattle.cfm_prepare.specs.Locations.{IsNearestOf, export_offset}
use Rattle.cfm_prepare.proofs.locations.nearest_number.Given as goal

abbrev pub invariant-loop-i : goal.invariant-loop-i
invariant-loop-i l = IsNearestOf (export_offset (loaded l.loader) l.section) l.i l.offset l.nearest
