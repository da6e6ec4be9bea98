-- The rows of types and the references of a resource map (Inside Macintosh: More Macintosh Toolbox, "Resource Manager",
-- "Resource File Format").
use Rattle.std.specs.Prelude.{ℕ, ◌+◌, ◌/◌, ◌%◌, ◌^◌, ◌==◌, Bool, List, Option, Some}
use Rattle.std.specs.Int.{w16}
use Rattle.pef_words.specs.Bytes.{number_at, signed_at}
use Rattle.pef_words.specs.Refusals.{◌>>=◌}
use Rattle.mac_resources.specs.declared.reference.Reference.{Reference}
use Rattle.mac_resources.specs.declared.reference.ResourceType.{ResourceType}

-- the row of a type at a place of the map; none if it passes the end
unfoldable pub type_read : List ℕ → ℕ → Option ResourceType
type_read map at = do
  code ← number_at 4 map at
  last ← number_at 2 map (at + 4)
  list ← number_at 2 map (at + 6)
  Some (record { code = code; last = last; list_offset = list })

-- how many resources a type has: one more than its row says, none for FFFF
abbrev pub list_count : ResourceType → ℕ
list_count k = (k.last + 1) % 2 ^ 16

-- the reference at a place of the map; none if it passes the end. Its third field has a byte of attributes and an offset
-- of 24 bits
unfoldable pub reference_read : List ℕ → ℕ → Option Reference
reference_read map at = do
  id ← signed_at w16 2 map at
  name ← number_at 2 map (at + 2)
  word ← number_at 4 map (at + 4)
  handle ← number_at 4 map (at + 8)
  Some (record {
    id = id;
    name_offset = name;
    attributes = word / 2 ^ 24;
    data_offset = word % 2 ^ 24;
    handle = handle;
  })

-- bit 0 of the attributes: the bytes are compressed (resCompressed, which the book leaves to the system)
abbrev pub is_compressed : Reference → Bool
is_compressed r = r.attributes % 2 == 1
