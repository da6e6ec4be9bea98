-- Exported symbols (Mac OS Runtime Architectures, "PEF Structure", "Exported Symbol Table";
-- PEFExportedSymbol of PEFBinaryFormat.h).
use Rattle.std.specs.Prelude.{ℕ, ℤ, ◌<◌, true, ◌||◌, ◌&&◌, Bool, IsTrue, not, List, [], ◌∷◌, Option, Some, drop, length, nat_lt}
use Rattle.std.specs.Option.{is_none, option_map_or}
use Rattle.pef_words.specs.Refusals.{◌>>=◌, first_met}
use Rattle.pef_format.specs.declared.export.ExportValue.{ExportValue}
use Rattle.pef_format.specs.declared.export.ExportValue.TheVariants.{Absolute, InSection, Reexport}
use Rattle.pef_format.specs.Exports.{Export, is_export_section, value_of}
use Rattle.pef_hash.specs.Exports.{Entry, ExportTable, entry_of, has_table, name_of}
use Rattle.pef_hash.specs.Regular.{IsSearchable}
use Rattle.pef_loader.specs.declared.header.LoaderHeader.{LoaderHeader}
use Rattle.pef_loader.specs.declared.fault.LoaderFault.{LoaderFault}
use Rattle.pef_loader.specs.declared.fault.LoaderFault.TheVariants.{BadExportTable, BadName, BadExportSection}
use Rattle.pef_loader.specs.declared.fault.NamedRow.TheVariants as row

-- there are no exports, or the slots, the keys and the exports don't pass the end
abbrev pub has_exports : List ℕ → LoaderHeader → Bool
has_exports bytes h = has_table h.export_power h.export_count (drop h.export_hash_offset bytes)

-- the export table and its strings
abbrev pub export_table : List ℕ → LoaderHeader → ExportTable
export_table bytes h = record {
  power = h.export_power;
  count = h.export_count;
  bytes = drop h.export_hash_offset bytes;
  strings = drop h.strings_offset bytes;
}

-- there are exports, and their table isn't one that is searched by its slots
pub record HasIrregular (bytes : List ℕ) (h : LoaderHeader) : Type 0 where
  pub whole : IsTrue (has_exports bytes h)
  pub some : 0 < h.export_count
  pub irregular : IsSearchable (export_table bytes h) → ⊥

-- an export's value exists: it is in an instantiated section, it is absolute, or it is that of one of the imports
abbrev pub is_there : LoaderHeader → ℕ → ExportValue → Bool
is_there h sections (InSection section offset) = nat_lt section sections
is_there h sections (Absolute value) = true
is_there h sections (Reexport import) = nat_lt import h.import_count

abbrev pub has_section : LoaderHeader → ℕ → ℕ → ℤ → Bool
has_section h sections value section = is_export_section section && is_there h sections (value_of section value)

-- the tests of export i, in order. A name also passes the end if the strings begin after the end
unfoldable pub export_tests : List ℕ → LoaderHeader → ℕ → ℕ → Entry → List (Bool × LoaderFault)
export_tests bytes h sections i e = (nat_lt (length bytes) h.strings_offset || is_none (name_of (export_table bytes h) i), BadName (row.Export i))
    ∷ (not (has_section h sections e.fields.value e.fields.section), BadExportSection i)
    ∷ []

-- the refusal of export i
abbrev pub export_refusal : List ℕ → LoaderHeader → ℕ → ℕ → Option LoaderFault
export_refusal bytes h sections i = option_map_or (λ e. first_met (export_tests bytes h sections i e)) (entry_of (export_table bytes h) i) (Some BadExportTable)

-- export i with its name, or none past the last one
unfoldable pub export_in : List ℕ → LoaderHeader → ℕ → Option Export
export_in bytes h i = do
  e ← entry_of (export_table bytes h) i
  name ← name_of (export_table bytes h) i
  Some (record { fields = e.fields; name = name })
