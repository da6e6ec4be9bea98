-- A line as its pieces (docs/FORMATS.md, "Listings"; docs/USAGE.md).
use Rattle.std.specs.Prelude.{ℕ, List, [], ◌∷◌, ◌++◌, decimal}
use Rattle.byteorder.specs.Endian.{big_bytes}
use Rattle.pef_ports.specs.declared.pieces.Piece.{Piece}
use Rattle.pef_ports.specs.declared.pieces.Piece.TheVariants.{Text, Name, Number, Word, Halfword, Byte, Offset}
use Rattle.pef_ports.specs.Names.{name_text}
use Rattle.pef_ports.specs.Text.{hex_text, offset_text, word_text}

-- a piece as it is printed: text unchanged, a name with the bytes escaped that could break a line, a
-- number in decimal, numbers of 32, 16 and 8 bits in hex digits, two for each byte, and an offset
abbrev pub piece_text : Piece → List ℕ
piece_text (Text text) = text.now
piece_text (Name name) = name_text name.now
piece_text (Number n) = decimal n
piece_text (Word n) = word_text n
piece_text (Halfword n) = hex_text (big_bytes 2 n)
piece_text (Byte n) = hex_text (n ∷ [])
piece_text (Offset n) = offset_text n

-- pieces after a text
abbrev pub pieces_after : List ℕ → List Piece → List ℕ
pieces_after text [] = text
pieces_after text (piece ∷ pieces) = pieces_after (text ++ piece_text piece) pieces

-- the pieces one after the other
abbrev pub pieces_text : List Piece → List ℕ
pieces_text [] = []
pieces_text (piece ∷ pieces) = pieces_after (piece_text piece) pieces
