-- The errors of a loader section, their numbers, and the fields that they are about.
use Rattle.std.specs.Prelude.{ℕ, List, Option, codes}
use Rattle.pef_format.specs.Places.{field_from}
use Rattle.pef_format.specs.declared.place.Part.{Part}
use Rattle.pef_format.specs.declared.place.Part.TheVariants as part
use Rattle.pef_format.specs.declared.place.Place.{Place}
use Rattle.pef_views.specs.Container.{Contained}
use Rattle.pef_loader.specs.declared.header.EntryKind.{EntryKind}
use Rattle.pef_loader.specs.declared.header.EntryKind.TheVariants.{Main, Init, Term}
use Rattle.pef_loader.specs.declared.fault.NamedRow.{NamedRow}
use Rattle.pef_loader.specs.declared.fault.NamedRow.TheVariants.{Library, Import, Export}
use Rattle.pef_loader.specs.declared.fault.LoaderFault.{LoaderFault}
use Rattle.pef_loader.specs.declared.fault.LoaderFault.TheVariants.{LoaderShort, BadTableOffset, BadName, BadLibraryRange, OrphanImport, BadEntry, BadRelocSection, RelocOutside, BadExportTable, BadExportSection}
use Rattle.pef_loader.specs.Places.{place_of, start_in}

abbrev pub fault_number : LoaderFault → ℕ
fault_number LoaderShort = 11
fault_number BadTableOffset = 12
fault_number (BadName of) = 13
fault_number (BadLibraryRange library) = 14
fault_number (OrphanImport import) = 15
fault_number (BadEntry entry) = 16
fault_number (BadRelocSection k) = 17
fault_number (RelocOutside k) = 18
fault_number BadExportTable = 19
fault_number (BadExportSection export) = 20

-- the names of the errors, which are their texts
abbrev pub fault_name : LoaderFault → List ℕ
fault_name LoaderShort = codes "LoaderShort"
fault_name BadTableOffset = codes "BadTableOffset"
fault_name (BadName of) = codes "BadName"
fault_name (BadLibraryRange library) = codes "BadLibraryRange"
fault_name (OrphanImport import) = codes "OrphanImport"
fault_name (BadEntry entry) = codes "BadEntry"
fault_name (BadRelocSection k) = codes "BadRelocSection"
fault_name (RelocOutside k) = codes "RelocOutside"
fault_name BadExportTable = codes "BadExportTable"
fault_name (BadExportSection export) = codes "BadExportSection"

-- a row of a loader section, and the offset of a field in it
pub record RowField : Type 0 where
  pub part : Part
  pub row : ℕ
  pub field : ℕ

abbrev pub field_of : Part → ℕ → ℕ → RowField
field_of kind row field = record { part = kind; row = row; field = field }

-- the part that an entry point is
abbrev pub entry_part : EntryKind → Part
entry_part Main = part.Main
entry_part Init = part.Init
entry_part Term = part.Term

-- the field that says where a row's name begins: nameOffset of a library, classAndName of an import and of an export
abbrev pub name_field : NamedRow → RowField
name_field (Library i) = field_of part.Library i 0
name_field (Import j) = field_of part.Import j 0
name_field (Export e) = field_of part.Export e 0

-- the field that an error is about: importedLibraryCount and exportHashOffset of the loader header, firstImportedSymbol
-- of a library, classAndName of an import, sectionIndex and relocCount of a relocation header, sectionIndex of an export,
-- and mainSection, initSection or termSection of an entry point
abbrev pub fault_field : LoaderFault → RowField
fault_field LoaderShort = field_of part.LoaderHeader 0 0
fault_field BadTableOffset = field_of part.LoaderHeader 0 24
fault_field (BadName of) = name_field of
fault_field (BadLibraryRange library) = field_of part.Library library 16
fault_field (OrphanImport import) = field_of part.Import import 0
fault_field (BadEntry entry) = field_of (entry_part entry) 0 0
fault_field (BadRelocSection k) = field_of part.Relocation k 0
fault_field (RelocOutside k) = field_of part.Relocation k 4
fault_field BadExportTable = field_of part.LoaderHeader 0 44
fault_field (BadExportSection export) = field_of part.Export export 8

-- the offset of that field in a loader section of these bytes
abbrev pub fault_offset : List ℕ → LoaderFault → Option ℕ
fault_offset bytes fault = let f = fault_field fault in field_from (start_in bytes f.part f.row) f.field

-- the place of an error of a container's loader section
abbrev pub fault_place : Contained → LoaderFault → Place
fault_place c fault = let f = fault_field fault in place_of c f.part f.row f.field
