-- What is printed of stubs and their symbols.
use Rattle.std.specs.Prelude.{ℕ, Bool, true, false, List, [], ◌∷◌, ◌++◌, Option, None, Some, codes, decimal}
use Rattle.cfm_stubs.specs.NumberStubs.{MadeStub}
use Rattle.pef_format.specs.Exports.{Export, value_of}
use Rattle.pef_format.specs.Symbols.{class_of}
use Rattle.pef_format.specs.declared.export.ExportValue.{ExportValue}
use Rattle.pef_format.specs.declared.export.ExportValue.TheVariants.{Absolute, InSection, Reexport}
use Rattle.pef_rows.specs.Codes.{class_member}
use Rattle.pef_rows.specs.Objects.{separator}
use Rattle.pef_rows.specs.Tokens.{name_member, number_or_null}
use Rattle.cfm_rows.specs.Lines.{stub_line, symbol_line}

-- the number that stands for a symbol in memory, if it isn't a place there
abbrev pub number_if : ExportValue → Option ℕ
number_if (Absolute n) = Some n
number_if (InSection section offset) = None
number_if (Reexport import) = None

abbrev pub number_of : Export → Option ℕ
number_of x = number_if (value_of x.fields.section x.fields.value)

-- the line of a symbol that has a number
abbrev pub line_if : Option ℕ → List ℕ → List ℕ
line_if None name = []
line_if (Some address) name = symbol_line address name

abbrev pub symbol_lines : List Export → List ℕ
symbol_lines [] = []
symbol_lines (x ∷ xs) = line_if (number_of x) x.name ++ symbol_lines xs

-- the lines of a stub: its own, and those of its symbols
unfoldable pub stub_lines : MadeStub → List ℕ
stub_lines s = stub_line s.name ++ symbol_lines s.exports

-- a symbol as an object of JSON: its name, its class, and its number or `null`
unfoldable pub symbol_object : Export → List ℕ
symbol_object x =
    codes "{" ++ name_member (codes "name") x.name ++ codes ",\"class\":" ++ decimal x.fields.class ++ class_member (class_of x.fields.class)
    ++ codes ",\"address\":" ++ number_or_null (number_of x) ++ codes "}"

-- symbols with commas between them
abbrev pub symbol_objects : Bool → List Export → List ℕ
symbol_objects is_first [] = []
symbol_objects is_first (x ∷ xs) = (separator is_first ++ symbol_object x) ++ symbol_objects false xs

-- the name of a stub
unfoldable pub stub_front : List ℕ → List ℕ
stub_front name = codes "{" ++ name_member (codes "stub") name ++ codes ",\"symbols\":["

-- a stub as an object of JSON, on a line of its own
unfoldable pub stub_object : MadeStub → List ℕ
stub_object s = stub_front s.name ++ (symbol_objects true s.exports ++ codes "]}\n")
