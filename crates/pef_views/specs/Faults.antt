-- The refusals of a container, with their numbers and names. They are this project's own.
use Rattle.std.specs.Prelude.{ℕ, List, Option, None, Some, codes}
use Rattle.std.specs.Option.{option_and_then}
use Rattle.pef_format.specs.Places.{placed_from}
use Rattle.pef_format.specs.declared.place.Part.TheVariants as part
use Rattle.pef_format.specs.declared.place.Place.{Place}
use Rattle.pef_views.specs.Header.{section_header_from}
use Rattle.pef_views.specs.declared.fault.ViewFault.{ViewFault}
use Rattle.pef_views.specs.declared.fault.ViewFault.TheVariants.{TooShort, BadTag, BadArchitecture, BadFormatVersion, BadSectionCounts, SectionOutside, BadSectionKind, BadSizes, BadAlignment, NoLoader}

-- the numbers
abbrev pub fault_number : ViewFault → ℕ
fault_number TooShort = 1
fault_number BadTag = 2
fault_number BadArchitecture = 3
fault_number BadFormatVersion = 4
fault_number BadSectionCounts = 5
fault_number (SectionOutside section) = 6
fault_number (BadSectionKind section) = 7
fault_number (BadSizes section) = 8
fault_number (BadAlignment section) = 9
fault_number NoLoader = 10

-- the names of the refusals, which are their texts
abbrev pub fault_name : ViewFault → List ℕ
fault_name TooShort = codes "TooShort"
fault_name BadTag = codes "BadTag"
fault_name BadArchitecture = codes "BadArchitecture"
fault_name BadFormatVersion = codes "BadFormatVersion"
fault_name BadSectionCounts = codes "BadSectionCounts"
fault_name (SectionOutside section) = codes "SectionOutside"
fault_name (BadSectionKind section) = codes "BadSectionKind"
fault_name (BadSizes section) = codes "BadSizes"
fault_name (BadAlignment section) = codes "BadAlignment"
fault_name NoLoader = codes "NoLoader"

-- where a fault is: tag1, architecture, formatVersion and instSectionCount of the container header; containerOffset,
-- sectionKind, unpackedSize and alignment of a section's
abbrev pub header_place : ℕ → Option Place
header_place field = Some (placed_from (Some 0) part.Header 0 field)

abbrev pub section_place : ℕ → ℕ → Option Place
section_place section field = Some (placed_from (Some (section_header_from section)) part.Section section field)

abbrev pub fault_place : ViewFault → Option Place
fault_place TooShort = None
fault_place BadTag = header_place 0
fault_place BadArchitecture = header_place 8
fault_place BadFormatVersion = header_place 12
fault_place BadSectionCounts = header_place 34
fault_place (SectionOutside section) = section_place section 20
fault_place (BadSectionKind section) = section_place section 24
fault_place (BadSizes section) = section_place section 12
fault_place (BadAlignment section) = section_place section 26
fault_place NoLoader = None

-- the offset in a container of the field that it is about
abbrev pub fault_offset : ViewFault → Option ℕ
fault_offset fault = option_and_then (λ (place : Place). place.offset) (fault_place fault)
