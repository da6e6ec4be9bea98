-- The values of what the code keeps, without places in memory.
use Rattle.pef_report.specs.Views as view
use Rattle.mac_report.specs.Containers.{RowIs, inspected, lacking, skipped}
use Rattle.mac_report.specs.Reports.{FoundIs}
use Rattle.mac_report.specs.declared.file.Shown.{Shown}
use Rattle.mac_report.specs.declared.row.Row.{Row}
use Rattle.mac_report.specs.declared.row.Row.TheVariants as row

-- what is known of a container
abbrev pub row_seen : {Y : Type 0} → Row Y → RowIs
row_seen (row.Inspected inspection) = inspected (view.inspected inspection)
row_seen (row.Lacking at) = lacking at
row_seen row.Skipped = skipped

-- what was found in a file besides its containers
abbrev pub shown_seen : Shown → FoundIs
shown_seen s = record { errors = s.errors.now; notes = s.notes.now }
