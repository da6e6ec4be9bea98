-- The rows of a loader section's tables as C sees them: those that the structs hold.
use Rattle.std.specs.Prelude.{ℕ, List}
use Rattle.pef_format.specs.Exports.{Export}
use Rattle.pef_format.specs.Symbols.{Import}
use Rattle.pef_loader.specs.Library.{Library}
use Rattle.pef_records.specs.declared.structs.PefExport.{PefExport}
use Rattle.pef_records.specs.declared.structs.PefImport.{PefImport}
use Rattle.pef_records.specs.declared.structs.PefLibrary.{PefLibrary}
use Rattle.pef_records.specs.declared.structs.PefRelocation.{PefRelocation}

abbrev pub library_shown : PefLibrary → Library
library_shown v = record {
  fields = record { current = v.current_version; old_imp = v.old_imp_version; count = v.import_count; first = v.first_import; options = v.options };
  name = v.name.now;
}

abbrev pub import_shown : PefImport → Import
import_shown v = record { fields = record { class = v.class; weak = v.weak }; name = v.name.now; library = v.library }

abbrev pub export_shown : PefExport → Export
export_shown v = record { fields = record { class = v.class; section = v.section; value = v.value }; name = v.name.now }

-- the section of a relocation header, and its instructions
abbrev pub relocation_shown : PefRelocation → ℕ × List ℕ
relocation_shown v = (v.section, v.instructions.now)
