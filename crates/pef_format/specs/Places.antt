-- Where an error is: a part of a container, or a line of a text, with a number and a name for each kind of part. They are
-- this project's own.
use Rattle.std.specs.Prelude.{ℕ, ◌+◌, ◌^◌, List, Option, None, Some, codes, nat_lt, if◌then◌else◌}
use Rattle.std.specs.Option.{option_and_then}
use Rattle.pef_format.specs.declared.place.Part.{Part}
use Rattle.pef_format.specs.declared.place.Part.TheVariants as part
use Rattle.pef_format.specs.declared.place.Place.{Place}

abbrev pub part_code : Part → ℕ
part_code part.Header = 1
part_code part.Section = 2
part_code part.LoaderHeader = 3
part_code part.Library = 4
part_code part.Import = 5
part_code part.Main = 6
part_code part.Init = 7
part_code part.Term = 8
part_code part.Relocation = 9
part_code part.Export = 10
part_code part.PackedData = 11
part_code part.Program = 12
part_code part.Line = 13

abbrev pub part_name : Part → List ℕ
part_name part.Header = codes "container header"
part_name part.Section = codes "section"
part_name part.LoaderHeader = codes "loader header"
part_name part.Library = codes "library"
part_name part.Import = codes "import"
part_name part.Main = codes "main entry point"
part_name part.Init = codes "initialization routine"
part_name part.Term = codes "termination routine"
part_name part.Relocation = codes "relocation header"
part_name part.Export = codes "export"
part_name part.PackedData = codes "packed data of section"
part_name part.Program = codes "program of relocation header"
part_name part.Line = codes "line"

-- where a field is, if that is below 2^64: its part begins at a place, if there is one
abbrev pub field_from : Option ℕ → ℕ → Option ℕ
field_from start field = option_and_then (λ from. if nat_lt (from + field) (2 ^ 64) then Some (from + field) else None) start

-- the place of a field, by where its part begins
abbrev pub placed_from : Option ℕ → Part → ℕ → ℕ → Place
placed_from start kind row field = record { part = kind; row = row; field = field; offset = field_from start field }
