-- Numbers in containers: big-endian, in one, two or four bytes (Mac OS Runtime Architectures, "PEF
-- Structure").
use Rattle.std.specs.Prelude.{ℕ, ◌-◌, List, [], ◌∷◌, ◌++◌, length, replicate}
use Rattle.std.specs.Int.{next_multiple_of}
use Rattle.byteorder.specs.Endian.{big_bytes}
use Rattle.pef_write.specs.declared.field.Field.{Field}
use Rattle.pef_write.specs.declared.field.Field.TheVariants.{Byte, Half, Word}

-- how many bytes a field has
abbrev pub width : Field → ℕ
width (Byte x) = 1
width (Half x) = 2
width (Word x) = 4

-- the number in a field
abbrev pub value : Field → ℕ
value (Byte x) = x
value (Half x) = x
value (Word x) = x

-- the bytes of a field, the highest first
abbrev pub field_bytes : Field → List ℕ
field_bytes field = big_bytes (width field) (value field)

-- the bytes of some fields, one after the other
unfoldable pub spelled : List Field → List ℕ
spelled [] = []
spelled (field ∷ fields) = field_bytes field ++ spelled fields

-- some bytes, with zeros after them up to the next multiple of a number
unfoldable pub padded : ℕ → List ℕ → List ℕ
padded multiple bytes = bytes ++ replicate (next_multiple_of (length bytes) multiple - length bytes) 0
