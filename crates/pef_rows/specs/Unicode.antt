-- Text in UTF-8 (RFC 3629) in strings of JSON (RFC 8259), in ASCII alone: an escape is a unit of UTF-16.
use Rattle.std.specs.Prelude.{ℕ, List, [], ◌∷◌, ◌++◌, codes, nat_lt, if◌then◌else◌}
use Rattle.std.specs.Char.Escape.{encode_utf16}
use Rattle.std.specs.Str.{chars, is_utf8}
use Rattle.pef_rows.specs.Strings.{byte_string, escaped}

-- a unit of a string
abbrev pub unit_string : ℕ → List ℕ
unit_string unit = if nat_lt unit 128 then byte_string unit else escaped unit

abbrev pub units_string : List ℕ → List ℕ
units_string [] = []
units_string (unit ∷ units) = unit_string unit ++ units_string units

-- the inside of a string with these characters
abbrev pub characters_string : List ℕ → List ℕ
characters_string [] = []
characters_string (c ∷ cs) = units_string (encode_utf16 c) ++ characters_string cs

-- the string of a text
abbrev pub quoted : List ℕ → List ℕ
quoted text = codes "\"" ++ (characters_string (chars text) ++ codes "\"")

-- .. or `null` if the bytes aren't UTF-8
abbrev pub text_value : List ℕ → List ℕ
text_value bytes = if is_utf8 bytes then quoted bytes else codes "null"
