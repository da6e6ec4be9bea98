-- What structs of this crate show, without addresses in memory.
use Rattle.std.specs.Option.{option_map}
use Rattle.pef_views.specs.PartialViews.{partly}
use Rattle.pef_loader.specs.PartialViews.{partly_loaded}
use Rattle.pef_report.specs.Inspection.{Inspected}
use Rattle.pef_report.specs.Readable.{Readable}
use Rattle.pef_report.specs.declared.inspection.Inspection.{Inspection}
use Rattle.pef_report.specs.declared.object.Shown.{Shown}
use Rattle.pef_report.specs.declared.reading.LoaderReading.{LoaderReading}
use Rattle.pef_report.specs.declared.reading.Reading.{Reading}

-- what an inspection has
abbrev pub inspected : {Y : Type 0} → Inspection Y → Inspected
inspected i = record { base = i.base; bytes = i.bytes.now; programs = i.programs; findings = i.findings.items }

-- what is shown of one
abbrev pub shown_seen : Shown → Inspected
shown_seen s = record { base = s.base; bytes = s.bytes.now; programs = s.programs; findings = s.findings.now }

-- what can be read
abbrev pub readable : Reading → Readable
readable r = record { base = r.base; container = option_map partly r.container; loader = option_map (λ (l : LoaderReading). partly_loaded l.loader) r.loader; programs = r.programs }
