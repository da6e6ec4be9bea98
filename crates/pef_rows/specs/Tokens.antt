-- A line or a JSON text as its tokens.
use Rattle.std.specs.Prelude.{ℕ, ◌/◌, ◌%◌, ◌^◌, ◌==◌, Bool, List, [], ◌∷◌, ◌++◌, Option, None, Some, codes, decimal, length, nat_lt, option_map, take, unwrap_or, if◌then◌else◌}
use Rattle.std.specs.Option.{option_copied}
use Rattle.std.specs.Str.{bytes_eq}
use Rattle.byteorder.specs.Endian.{big_bytes}
use Rattle.pef_loader.specs.CutNames.{CutName, cut_name}
use Rattle.pef_loader.specs.PartialViews.{cut_seen}
use Rattle.pef_ports.specs.Names.{byte_text, name_text}
use Rattle.pef_ports.specs.Text.{hex_text, word_text}
use Rattle.pef_rows.specs.declared.tokens.Token.{Token}
use Rattle.pef_rows.specs.declared.tokens.Token.TheVariants as token
use Rattle.pef_rows.specs.Dates.{date_text}
use Rattle.pef_rows.specs.Strings.{is_ascii, string_text}
use Rattle.pef_rows.specs.Unicode.{text_value}
use Rattle.pef_rows.specs.Versions.{version_text}

-- an offset in a file: eight hex digits, or sixteen past 4 gigabytes
unfoldable pub at_text : ℕ → List ℕ
at_text n = if nat_lt n (2 ^ 32) then word_text n else word_text (n / 2 ^ 32) ++ word_text (n % 2 ^ 32)

-- a byte of a path inside a JSON string
unfoldable pub path_byte : ℕ → List ℕ
path_byte b = if b == 34 then codes "\\\"" else if b == 92 then codes "\\\\" else byte_text b

-- a path inside a JSON string, with the bytes escaped as in other output
abbrev pub path_text : List ℕ → List ℕ
path_text [] = []
path_text (b ∷ path) = path_byte b ++ path_text path

-- the four characters of a number, inside a JSON string
unfoldable pub tag_text : ℕ → List ℕ
tag_text n = string_text (big_bytes 4 n)

-- the quote that ends a string, and the bytes of a name as another member in hex digits, without its last quote
unfoldable pub hex_bytes : List ℕ → List ℕ → List ℕ
hex_bytes key name = (codes "\",\"" ++ key ++ codes "_hex\":\"") ++ hex_text name

-- the same for a name that isn't ASCII, and nothing for one that is
unfoldable pub hex_member : List ℕ → List ℕ → List ℕ
hex_member key name = if is_ascii name then [] else hex_bytes key name

-- a name as a member of a JSON object
unfoldable pub name_member : List ℕ → List ℕ → List ℕ
name_member key name = (codes "\"" ++ key ++ codes "\":\"") ++ (string_text name ++ (hex_member key name ++ codes "\""))

-- Many rows can share one long name. So of the name of a row at most 4,096 bytes are looked at, and at most 1,024 of them are
-- printed.

-- the name of a row as far as it is looked at
abbrev pub row_name : Option (List ℕ) → Option CutName
row_name name = option_map (cut_name 4096) name

-- a name in a line. `%..` is no escaped byte, and says that the name is longer
unfoldable pub label_text : List ℕ → List ℕ
label_text name = if nat_lt 1024 (length name) then name_text (take 1024 name) ++ codes "%.." else name_text name

-- what is printed in place of a name in a line, so that each name has its column and none looks like one that can't be read: `%-` for
-- one without bytes, and `%3F` for `?`
abbrev pub name_mark : List ℕ → Option (List ℕ)
name_mark [] = Some (codes "%-")
name_mark (b ∷ name) = if bytes_eq (b ∷ name) (codes "?") then Some (codes "%3F") else None

-- a name in a line with columns, and the name of a row there
abbrev pub column_text : List ℕ → List ℕ
column_text name = unwrap_or (name_mark name) (name_text name)

abbrev pub label_column : List ℕ → List ℕ
label_column name = unwrap_or (name_mark name) (label_text name)

-- a truth value of JSON
abbrev pub truth : Bool → List ℕ
truth holds = if holds then codes "true" else codes "false"

-- an offset in a file, or `-`
abbrev pub at_or_dash : Option ℕ → List ℕ
at_or_dash None = codes "-"
at_or_dash (Some at) = at_text at

-- a number, or `null`
abbrev pub number_or_null : Option ℕ → List ℕ
number_or_null None = codes "null"
number_or_null (Some n) = decimal n

-- how many bytes a name has, if all were looked at
abbrev pub name_length : CutName → Option ℕ
name_length name = if name.whole then Some (length name.bytes) else None

-- the length of a name as another member
unfoldable pub length_member : List ℕ → Option ℕ → List ℕ
length_member key len = codes ",\"" ++ key ++ codes "_length\":" ++ number_or_null len

-- the first bytes of a name as a member of a JSON object, with the length of the name
unfoldable pub cut_member : List ℕ → CutName → List ℕ
cut_member key name = name_member key (take 1024 name.bytes) ++ length_member key (name_length name)

-- a name as a member of a JSON object, all of it if it isn't longer
unfoldable pub label_member : List ℕ → CutName → List ℕ
label_member key name = if nat_lt 1024 (length name.bytes) then cut_member key name else name_member key name.bytes

-- a member of a JSON object that has no name
abbrev pub no_name : List ℕ → List ℕ
no_name key = codes "\"" ++ key ++ codes "\":null"

-- a member of a JSON object: a name, or `null`
abbrev pub member_text : List ℕ → Option (List ℕ) → List ℕ
member_text key None = no_name key
member_text key (Some name) = name_member key name

-- the same for the name of a row
abbrev pub row_member : List ℕ → Option CutName → List ℕ
row_member key None = no_name key
row_member key (Some name) = label_member key name

-- a token as it is printed: text unchanged, a number in decimal, numbers of 32, 16 and 8 bits in hex digits, a name with
-- the bytes escaped that could break a line, the name of a row, a path inside a JSON string, a text in UTF-8, an offset in a
-- file, a version, a date, four characters, bytes in hex digits, and members of a JSON object
abbrev pub token_text : Token → List ℕ
token_text (token.Text text) = text.now
token_text (token.Number n) = decimal n
token_text (token.Word n) = word_text n
token_text (token.Halfword n) = hex_text (big_bytes 2 n)
token_text (token.Byte n) = hex_text (n ∷ [])
token_text (token.Name name) = name_text name.now
token_text (token.CutName name) = label_text name.now
token_text (token.Path path) = path_text path.now
token_text (token.Unicode text) = text_value text.now
token_text (token.At n) = at_text n
token_text (token.Version n) = version_text n
token_text (token.Date n) = date_text n
token_text (token.Tag n) = tag_text n
token_text (token.Octets bytes) = hex_text bytes.now
token_text (token.NameMember key name) = member_text key.now (option_copied name)
token_text (token.CutNameMember key name) = row_member key.now (option_map cut_seen name)

-- tokens after a text
abbrev pub tokens_after : List ℕ → List Token → List ℕ
tokens_after text [] = text
tokens_after text (t ∷ tokens) = tokens_after (text ++ token_text t) tokens

-- the tokens one after the other
abbrev pub tokens_text : List Token → List ℕ
tokens_text [] = []
tokens_text (t ∷ tokens) = tokens_after (token_text t) tokens
