-- The place of an error in a container, in words (docs/ERRORS.md). The names of the fields are plain words for those of
-- PEFBinaryFormat.h.
use Rattle.std.specs.Prelude.{ℕ, ◌/◌, ◌==◌, Bool, true, false, List, [], ◌++◌, Option, None, Some, codes, decimal, if◌then◌else◌}
use Rattle.pef_format.specs.declared.place.Part.{Part}
use Rattle.pef_format.specs.declared.place.Part.TheVariants as part
use Rattle.pef_format.specs.declared.place.Place.{Place}
use Rattle.pef_ports.specs.Text.{offset_text}

-- the words for a part's field, by its offset in the part
abbrev pub header_words : ℕ → List ℕ
header_words field =
    if field == 0 then codes "the tag of the container header" else
    if field == 8 then codes "the architecture in the container header" else
    if field == 12 then codes "the version of the format in the container header" else
    if field == 34 then codes "the number of instantiated sections in the container header" else
    codes "the container header"

abbrev pub section_words : ℕ → List ℕ
section_words field =
    if field == 8 then codes "the size in memory of section" else
    if field == 12 then codes "the size of the image of section" else
    if field == 20 then codes "the offset of the raw data of section" else
    if field == 24 then codes "the kind of section" else
    if field == 26 then codes "the alignment of section" else
    codes "section"

abbrev pub loader_words : ℕ → List ℕ
loader_words field =
    if field == 24 then codes "the number of libraries in the loader header" else
    if field == 44 then codes "the offset of the export hash table in the loader header" else
    codes "the loader header"

abbrev pub library_words : ℕ → List ℕ
library_words field =
    if field == 0 then codes "the name of library" else
    if field == 4 then codes "the oldest version that is taken of library" else
    if field == 16 then codes "the first import of library" else
    if field == 20 then codes "the option byte of library" else
    codes "library"

abbrev pub relocation_words : ℕ → List ℕ
relocation_words field =
    if field == 0 then codes "the section of relocation header" else
    if field == 4 then codes "the number of halfwords of relocation header" else
    codes "relocation header"

abbrev pub export_words : ℕ → List ℕ
export_words field =
    if field == 0 then codes "the name of export" else
    if field == 8 then codes "the section of export" else
    codes "export"

unfoldable pub field_words : Part → ℕ → List ℕ
field_words part.Header field = header_words field
field_words part.Section field = section_words field
field_words part.LoaderHeader field = loader_words field
field_words part.Library field = library_words field
field_words part.Import field = codes "the name of import"
field_words part.Main field = codes "the section of the main entry point"
field_words part.Init field = codes "the section of the initialization routine"
field_words part.Term field = codes "the section of the termination routine"
field_words part.Relocation field = relocation_words field
field_words part.Export field = export_words field
field_words part.PackedData field = codes "in the packed data of section"
field_words part.Program field = codes "in the program of relocation header"
field_words part.Line field = codes "in a line"

-- the byte of an instruction of packed data, or other words
abbrev pub packed_or : List ℕ → ℕ → Part → List ℕ
packed_or words field part.PackedData = codes "at byte " ++ decimal field ++ codes " of the packed data of section"
packed_or words field other = words

-- a container can have several parts of a kind
abbrev pub has_rows : Part → Bool
has_rows part.Header = false
has_rows part.LoaderHeader = false
has_rows part.Main = false
has_rows part.Init = false
has_rows part.Term = false
has_rows part.Line = false
has_rows part.Section = true
has_rows part.Library = true
has_rows part.Import = true
has_rows part.Relocation = true
has_rows part.Export = true
has_rows part.PackedData = true
has_rows part.Program = true

-- the number of the part, if there are several
unfoldable pub row_sentence : Place → List ℕ
row_sentence p = if has_rows p.part then codes " " ++ decimal p.row ++ codes ", counted from 0" else []

-- the offset in the file, if there is one
unfoldable pub offset_sentence : Option ℕ → List ℕ
offset_sentence None = codes ".\n"
offset_sentence (Some offset) = codes ", at byte " ++ offset_text offset ++ codes " of the file.\n"

-- the part and its field; in packed data the byte of the instruction
unfoldable pub field_sentence : Place → List ℕ
field_sentence p = packed_or (field_words p.part p.field) p.field p.part

-- a sentence on the place
unfoldable pub place_text : Place → List ℕ
place_text p = codes "It is " ++ (field_sentence p ++ (row_sentence p ++ offset_sentence p.offset))

-- the halfword of an instruction, its header and the section
unfoldable pub instruction_sentence : Place → ℕ → List ℕ
instruction_sentence p section =
    codes "\nIt is at halfword " ++ decimal (p.field / 2) ++ codes " of the program of relocation header " ++ decimal p.row
    ++ codes ", both counted from 0, which is for section " ++ decimal section

-- the word that was to be added to
abbrev pub word_sentence : Option ℕ → List ℕ
word_sentence None = []
word_sentence (Some word) = codes "The word is at offset " ++ offset_text word ++ codes " of the section.\n"

-- the end of the line with the help, and the sentences on an instruction
unfoldable pub program_text : Place → ℕ → Option ℕ → List ℕ
program_text p section word = instruction_sentence p section ++ (offset_sentence p.offset ++ word_sentence word)
