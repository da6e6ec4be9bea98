-- The values of rows, without places in memory.
use Rattle.cfm_rows.specs.Imports.{ImportIs}
use Rattle.cfm_rows.specs.declared.imports.ImportRow.{ImportRow}

abbrev pub import_row_seen : ImportRow → ImportIs
import_row_seen row = record { name = row.name.now; library = row.library.now; fields = row.fields; address = row.address }
