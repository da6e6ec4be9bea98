-- The line and the object of an error or a note. Fields have the names of PEFBinaryFormat.h.
use Rattle.std.specs.Prelude.{ℕ, ◌+◌, ◌/◌, ◌^◌, ◌==◌, ◌||◌, Bool, true, false, List, [], ◌++◌, Option, None, Some, codes, decimal, nat_lt, if◌then◌else◌}
use Rattle.std.specs.Option.{unwrap_or}
use Rattle.pef_format.specs.declared.place.Part.{Part}
use Rattle.pef_format.specs.declared.place.Part.TheVariants as part
use Rattle.pef_format.specs.declared.place.Place.{Place}
use Rattle.pef_inspect.specs.declared.detail.Detail.{Detail}
use Rattle.pef_inspect.specs.declared.detail.Detail.TheVariants as detail
use Rattle.pef_rows.specs.Objects.{number_or_null}
use Rattle.pef_rows.specs.Tokens.{at_text}

-- a text, or nothing
abbrev pub shown : Bool → List ℕ → List ℕ
shown is_shown text = if is_shown then text else []

-- an error or a note about a container as a whole, or about bytes of it, and about no field
abbrev pub is_whole : ℕ → Bool
is_whole number = number == 1 || number == 10 || number == 109 || number == 113 || number == 124

-- the first word of the line of a part
abbrev pub part_word : Part → List ℕ
part_word part.Header = codes "container"
part_word part.Section = codes "section"
part_word part.LoaderHeader = codes "loader"
part_word part.Library = codes "library"
part_word part.Import = codes "import"
part_word part.Main = codes "main"
part_word part.Init = codes "init"
part_word part.Term = codes "term"
part_word part.Relocation = codes "reloc"
part_word part.Export = codes "export"
part_word part.PackedData = codes "section"
part_word part.Program = codes "reloc"
part_word part.Line = codes "line"

-- its name in JSON
abbrev pub part_key : Part → List ℕ
part_key part.Header = codes "header"
part_key part.Section = codes "section"
part_key part.LoaderHeader = codes "loader"
part_key part.Library = codes "library"
part_key part.Import = codes "import"
part_key part.Main = codes "main"
part_key part.Init = codes "init"
part_key part.Term = codes "term"
part_key part.Relocation = codes "relocation"
part_key part.Export = codes "export"
part_key part.PackedData = codes "packed"
part_key part.Program = codes "program"
part_key part.Line = codes "line"

-- a container can have several parts of a kind
abbrev pub has_rows : Part → Bool
has_rows part.Header = false
has_rows part.LoaderHeader = false
has_rows part.Main = false
has_rows part.Init = false
has_rows part.Term = false
has_rows part.Line = false
has_rows part.Section = true
has_rows part.Library = true
has_rows part.Import = true
has_rows part.Relocation = true
has_rows part.Export = true
has_rows part.PackedData = true
has_rows part.Program = true

-- the fields of a part, by their offsets, each after a space

abbrev pub header_field : ℕ → List ℕ
header_field field =
    if field == 0 then codes " tag1" else
    if field == 8 then codes " architecture" else
    if field == 12 then codes " formatVersion" else
    if field == 20 then codes " oldDefVersion" else
    if field == 24 then codes " oldImpVersion" else
    if field == 32 then codes " sectionCount" else
    if field == 34 then codes " instSectionCount" else
    if field == 36 then codes " reservedA" else
    []

abbrev pub section_field : ℕ → List ℕ
section_field field =
    if field == 0 then codes " nameOffset" else
    if field == 8 then codes " totalSize" else
    if field == 12 then codes " unpackedSize" else
    if field == 16 then codes " packedSize" else
    if field == 20 then codes " containerOffset" else
    if field == 24 then codes " sectionKind" else
    if field == 25 then codes " shareKind" else
    if field == 26 then codes " alignment" else
    if field == 27 then codes " reservedA" else
    []

abbrev pub loader_field : ℕ → List ℕ
loader_field field =
    if field == 0 then codes " mainSection" else
    if field == 24 then codes " importedLibraryCount" else
    if field == 28 then codes " totalImportedSymbolCount" else
    if field == 32 then codes " relocSectionCount" else
    if field == 44 then codes " exportHashOffset" else
    if field == 52 then codes " exportedSymbolCount" else
    []

abbrev pub library_field : ℕ → List ℕ
library_field field =
    if field == 0 then codes " nameOffset" else
    if field == 4 then codes " oldImpVersion" else
    if field == 12 then codes " importedSymbolCount" else
    if field == 16 then codes " firstImportedSymbol" else
    if field == 20 then codes " options" else
    if field == 21 then codes " reservedA" else
    []

abbrev pub relocation_field : ℕ → List ℕ
relocation_field field =
    if field == 0 then codes " sectionIndex" else
    if field == 2 then codes " reservedA" else
    if field == 4 then codes " relocCount" else
    if field == 8 then codes " firstRelocOffset" else
    []

abbrev pub export_field : ℕ → List ℕ
export_field field =
    if field == 0 then codes " classAndName" else
    if field == 4 then codes " symbolValue" else
    if field == 8 then codes " sectionIndex" else
    []

-- the field of an entry point, by the names of its two fields
abbrev pub entry_field : ℕ → List ℕ → List ℕ → List ℕ
entry_field field section offset = if field == 0 then section else offset

abbrev pub field_word : Bool → Part → ℕ → List ℕ
field_word whole part.Header field = if whole then [] else header_field field
field_word whole part.Section field = section_field field
field_word whole part.LoaderHeader field = if whole then [] else loader_field field
field_word whole part.Library field = library_field field
field_word whole part.Import field = codes " classAndName"
field_word whole part.Main field = entry_field field (codes " mainSection") (codes " mainOffset")
field_word whole part.Init field = entry_field field (codes " initSection") (codes " initOffset")
field_word whole part.Term field = entry_field field (codes " termSection") (codes " termOffset")
field_word whole part.Relocation field = relocation_field field
field_word whole part.Export field = export_field field
field_word whole part.PackedData field = codes " packed "
field_word whole part.Program field = codes " halfword "
field_word whole part.Line field = []

-- the byte of packed data, or the halfword of a program
abbrev pub field_number : Part → ℕ → List ℕ
field_number part.PackedData field = decimal field
field_number part.Program field = decimal (field / 2)
field_number part.Header field = []
field_number part.Section field = []
field_number part.LoaderHeader field = []
field_number part.Library field = []
field_number part.Import field = []
field_number part.Main field = []
field_number part.Init field = []
field_number part.Term field = []
field_number part.Relocation field = []
field_number part.Export field = []
field_number part.Line field = []

-- the offset in the file of a place in a container that begins at base
abbrev pub offset_in_file : ℕ → Option ℕ → Option ℕ
offset_in_file base None = None
offset_in_file base (Some offset) = if nat_lt (base + offset) (2 ^ 64) then Some (base + offset) else None

-- the same, and the container's own offset if there is none
abbrev pub file_offset : ℕ → Option ℕ → ℕ
file_offset base offset = unwrap_or (offset_in_file base offset) base

abbrev pub at_word : Option ℕ → List ℕ
at_word None = []
at_word (Some at) = codes " at "

abbrev pub at_digits : Option ℕ → List ℕ
at_digits None = []
at_digits (Some at) = at_text at

abbrev pub detail_word : Detail → List ℕ
detail_word (detail.Word n) = codes " word "
detail_word (detail.Length n) = codes " length "
detail_word (detail.Sections n) = codes " sections "
detail_word detail.None = []

abbrev pub detail_text : Detail → List ℕ
detail_text (detail.Word n) = at_text n
detail_text (detail.Length n) = decimal n
detail_text (detail.Sections n) = decimal n
detail_text detail.None = []

abbrev pub detail_key : Detail → List ℕ
detail_key (detail.Word n) = codes ",\"word\":"
detail_key (detail.Length n) = codes ",\"length\":"
detail_key (detail.Sections n) = codes ",\"sections\":"
detail_key detail.None = []

abbrev pub detail_number : Detail → List ℕ
detail_number (detail.Word n) = decimal n
detail_number (detail.Length n) = decimal n
detail_number (detail.Sections n) = decimal n
detail_number detail.None = []

abbrev pub severity_word : Bool → List ℕ
severity_word is_error = if is_error then codes "error " else codes "note "

-- the line of an error or a note with a number and a name, at a place of a container that begins at base
unfoldable pub finding_line : ℕ → ℕ → List ℕ → Bool → Place → Detail → List ℕ
finding_line base number name is_error place detail =
    severity_word is_error ++ decimal number ++ codes " " ++ name ++ codes " " ++ part_word place.part
    ++ shown (has_rows place.part) (codes " ") ++ shown (has_rows place.part) (decimal place.row)
    ++ field_word (is_whole number) place.part place.field ++ field_number place.part place.field
    ++ at_word (offset_in_file base place.offset) ++ at_digits (offset_in_file base place.offset)
    ++ detail_word detail ++ detail_text detail ++ codes "\n"

-- a field in JSON, or `null` if there is none
abbrev pub field_value : Bool → ℕ → List ℕ
field_value whole field = if whole then codes "null" else decimal field

-- its object of JSON
unfoldable pub finding_object : ℕ → ℕ → List ℕ → Place → Detail → List ℕ
finding_object base number name place detail =
    codes "{\"number\":" ++ decimal number ++ codes ",\"name\":\"" ++ name ++ codes "\",\"part\":\"" ++ part_key place.part
    ++ codes "\",\"row\":" ++ decimal place.row ++ codes ",\"field\":" ++ field_value (is_whole number) place.field
    ++ codes ",\"offset\":" ++ number_or_null (offset_in_file base place.offset)
    ++ detail_key detail ++ detail_number detail ++ codes "}"
