-- What the fields of an exported symbol mean (PEFExportedSymbol of PEFBinaryFormat.h; Mac OS Runtime
-- Architectures, "PEF Structure", "Exported Symbol Table").
use Rattle.std.specs.Prelude.{ℕ, ℤ, pos, negsuc, true, ◌==◌, ◌||◌, Bool, List, if◌then◌else◌}
use Rattle.pef_format.specs.declared.export.ExportValue.{ExportValue}
use Rattle.pef_format.specs.declared.export.ExportValue.TheVariants.{Absolute, InSection, Reexport}
use Rattle.pef_format.specs.declared.export.ExportFields.{ExportFields}
use Rattle.pef_format.specs.declared.named.Named.{Named}
use Rattle.pef_format.specs.Rows.{named}
use Rattle.std.specs.Borrow.{Bor}

-- the sections of an absolute value (-2) and of an import that is passed on (-3)

abbrev pub absolute_export : ℤ
absolute_export = negsuc 1

abbrev pub reexported_import : ℤ
reexported_import = negsuc 2

-- a section number that the format gives to exports
abbrev pub is_export_section : ℤ → Bool
is_export_section (pos section) = true
is_export_section (negsuc n) = n == 1 || n == 2

-- what an export means, by its section and its value
abbrev pub value_of : ℤ → ℕ → ExportValue
value_of (pos section) value = InSection section value
value_of (negsuc n) value = if n == 1 then Absolute value else Reexport value

-- an exported symbol
abbrev pub Export : Type 0
Export = Named ExportFields (List ℕ)

-- a view of an exported symbol
abbrev pub ExportView : Type 0
ExportView = Named ExportFields (Bor (List ℕ))

-- the symbol that a view shows
abbrev pub export_seen : ExportView → Export
export_seen v = named (λ name. name.now) v
