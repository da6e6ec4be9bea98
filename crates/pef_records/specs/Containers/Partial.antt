-- The rows of a loader section that may be damaged as C sees them: what is missing has no bytes, and a library that no import
-- belongs to has the greatest number.
use Rattle.std.specs.Prelude.{◌-◌, ◌^◌, ℕ, List, [], Option, option_map}
use Rattle.std.specs.Option.{unwrap_or}
use Rattle.pef_format.specs.Exports.{Export}
use Rattle.pef_format.specs.Rows.{named}
use Rattle.pef_format.specs.Symbols.{Import}
use Rattle.pef_loader.specs.Library.{Library}
use Rattle.pef_loader.specs.Loader.{Loaded}
use Rattle.pef_loader.specs.Partial as tables
use Rattle.pef_loader.specs.Partial.{ExportRow, ImportRow, LibraryRow, RelocationRow}

abbrev pub library_part : LibraryRow → Library
library_part r = named (λ name. unwrap_or name []) r

abbrev pub no_library : ℕ
no_library = 2 ^ 64 - 1

abbrev pub import_part : ImportRow → Import
import_part r = record { fields = r.fields; name = unwrap_or r.name []; library = unwrap_or r.library no_library }

abbrev pub relocation_part : RelocationRow → ℕ × List ℕ
relocation_part r = (r.section, unwrap_or r.program [])

abbrev pub export_part : ExportRow → Export
export_part r = named (λ name. unwrap_or name []) r

-- the rows of each table, by their numbers

abbrev pub library_in : Loaded → ℕ → Option Library
library_in l i = option_map library_part (tables.library_row l i)

abbrev pub import_in : Loaded → ℕ → Option Import
import_in l j = option_map import_part (tables.import_row l j)

abbrev pub relocation_in : Loaded → ℕ → Option (ℕ × List ℕ)
relocation_in l k = option_map relocation_part (tables.relocation_row l k)

abbrev pub export_in : Loaded → ℕ → Option Export
export_in l i = option_map export_part (tables.export_row l i)
