-- Strings of JSON (RFC 8259), in ASCII alone. Names are in Mac Roman, so a byte above 7F is the character that Apple's
-- ROMAN.TXT of the Unicode Consortium gives it.
use Rattle.std.specs.Prelude.{ℕ, ◌-◌, ◌==◌, ◌&&◌, Bool, true, not, List, [], ◌∷◌, ◌++◌, codes, get_or, nat_le, nat_lt, if◌then◌else◌}
use Rattle.byteorder.specs.Endian.{big_bytes}
use Rattle.pef_ports.specs.Text.{hex_text}

-- the characters of 80 to FF
unfoldable pub mac_roman : List ℕ
mac_roman =
    0x00C4 ∷ 0x00C5 ∷ 0x00C7 ∷ 0x00C9 ∷ 0x00D1 ∷ 0x00D6 ∷ 0x00DC ∷ 0x00E1 ∷
    0x00E0 ∷ 0x00E2 ∷ 0x00E4 ∷ 0x00E3 ∷ 0x00E5 ∷ 0x00E7 ∷ 0x00E9 ∷ 0x00E8 ∷
    0x00EA ∷ 0x00EB ∷ 0x00ED ∷ 0x00EC ∷ 0x00EE ∷ 0x00EF ∷ 0x00F1 ∷ 0x00F3 ∷
    0x00F2 ∷ 0x00F4 ∷ 0x00F6 ∷ 0x00F5 ∷ 0x00FA ∷ 0x00F9 ∷ 0x00FB ∷ 0x00FC ∷
    0x2020 ∷ 0x00B0 ∷ 0x00A2 ∷ 0x00A3 ∷ 0x00A7 ∷ 0x2022 ∷ 0x00B6 ∷ 0x00DF ∷
    0x00AE ∷ 0x00A9 ∷ 0x2122 ∷ 0x00B4 ∷ 0x00A8 ∷ 0x2260 ∷ 0x00C6 ∷ 0x00D8 ∷
    0x221E ∷ 0x00B1 ∷ 0x2264 ∷ 0x2265 ∷ 0x00A5 ∷ 0x00B5 ∷ 0x2202 ∷ 0x2211 ∷
    0x220F ∷ 0x03C0 ∷ 0x222B ∷ 0x00AA ∷ 0x00BA ∷ 0x03A9 ∷ 0x00E6 ∷ 0x00F8 ∷
    0x00BF ∷ 0x00A1 ∷ 0x00AC ∷ 0x221A ∷ 0x0192 ∷ 0x2248 ∷ 0x2206 ∷ 0x00AB ∷
    0x00BB ∷ 0x2026 ∷ 0x00A0 ∷ 0x00C0 ∷ 0x00C3 ∷ 0x00D5 ∷ 0x0152 ∷ 0x0153 ∷
    0x2013 ∷ 0x2014 ∷ 0x201C ∷ 0x201D ∷ 0x2018 ∷ 0x2019 ∷ 0x00F7 ∷ 0x25CA ∷
    0x00FF ∷ 0x0178 ∷ 0x2044 ∷ 0x20AC ∷ 0x2039 ∷ 0x203A ∷ 0xFB01 ∷ 0xFB02 ∷
    0x2021 ∷ 0x00B7 ∷ 0x201A ∷ 0x201E ∷ 0x2030 ∷ 0x00C2 ∷ 0x00CA ∷ 0x00C1 ∷
    0x00CB ∷ 0x00C8 ∷ 0x00CD ∷ 0x00CE ∷ 0x00CF ∷ 0x00CC ∷ 0x00D3 ∷ 0x00D4 ∷
    0xF8FF ∷ 0x00D2 ∷ 0x00DA ∷ 0x00DB ∷ 0x00D9 ∷ 0x0131 ∷ 0x02C6 ∷ 0x02DC ∷
    0x00AF ∷ 0x02D8 ∷ 0x02D9 ∷ 0x02DA ∷ 0x00B8 ∷ 0x02DD ∷ 0x02DB ∷ 0x02C7 ∷ []

-- the character of a byte
abbrev pub character_of : ℕ → ℕ
character_of b = if nat_lt b 128 then b else get_or mac_roman (b - 128) 0

-- a character that is written with an escape: a control character, or one outside ASCII
abbrev pub escaped : ℕ → List ℕ
escaped character = codes "\\u" ++ hex_text (big_bytes 2 character)

-- a byte that needs no escape
abbrev pub is_plain : ℕ → Bool
is_plain b = (nat_le 0x20 b && nat_le b 0x7E) && (not (b == 34) && not (b == 92))

-- a character of a string
unfoldable pub byte_string : ℕ → List ℕ
byte_string b =
    if b == 34 then codes "\\\"" else
    if b == 92 then codes "\\\\" else
    if nat_le 0x20 b && nat_le b 0x7E then b ∷ [] else escaped (character_of b)

-- the inside of a string
abbrev pub string_text : List ℕ → List ℕ
string_text [] = []
string_text (b ∷ bytes) = byte_string b ++ string_text bytes

-- all bytes are ASCII
abbrev pub is_ascii : List ℕ → Bool
is_ascii [] = true
is_ascii (b ∷ bytes) = nat_lt b 128 && is_ascii bytes
