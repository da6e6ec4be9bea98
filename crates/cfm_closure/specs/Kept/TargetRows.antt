-- The targets of a fragment's imports, of one closure or shared by several.
use Rattle.cfm_closure.specs.declared.targets.TargetRow.{TargetRow}
use Rattle.cfm_closure.specs.declared.targets.TargetRow.TheVariants.{Own, Shared}
use Rattle.cfm_closure.specs.Kept.Resolutions.{all_meant}
use Rattle.cfm_closure.specs.Kept.Targets.{AllKnown, Row}

-- the targets
abbrev pub row_seen : TargetRow → Row
row_seen (Own known) = all_meant known.items
row_seen (Shared row) = row

-- only those that are all known are shared
abbrev pub IsTargetRow : TargetRow → Type 0
IsTargetRow (Own known) = Unit {0}
IsTargetRow (Shared row) = AllKnown row
