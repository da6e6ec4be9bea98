-- Places that are filled with findings, one after the other.
use Rattle.std.specs.Prelude.{List, ◌++◌, drop}
use Rattle.pef_c.specs.Containers.Told.{told_items}
use Rattle.pef_c.specs.declared.containers.findings.Filling.{Filling}
use Rattle.pef_records.specs.declared.structs.PefFinding.{PefFinding}

-- what was in the places before any was filled
abbrev pub start_of : Filling → List PefFinding
start_of f = told_items f.were ++ drop f.count f.places.now
