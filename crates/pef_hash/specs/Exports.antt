-- The exports of a table, by place and by name (Mac OS Runtime Architectures, "PEF Structure", "Export Hash
-- Table", "Export Key Table" and "Exported Symbol Table"; PEFExportedSymbolHashSlot, PEFExportedSymbolKey and
-- PEFExportedSymbol of PEFBinaryFormat.h).
use Rattle.std.specs.Prelude.{ℕ, ◌+◌, ◌*◌, ◌/◌, ◌%◌, ◌^◌, List, length, Option, None, Some, nat_lt, nat_le, ◌||◌, ◌&&◌, ◌==◌, Bool, false, if◌then◌else◌}
use Rattle.std.specs.Int.{w16}
use Rattle.std.specs.Option.{option_map_or}
use Rattle.std.specs.Str.{bytes_eq}
use Rattle.pef_words.specs.Bytes.{number_at, part_of, signed_at}
use Rattle.pef_words.specs.Refusals.{◌>>=◌, first_among}
use Rattle.pef_format.specs.declared.export.ExportFields.{ExportFields}
use Rattle.pef_format.specs.declared.named.Named.{Named}
use Rattle.pef_hash.specs.Limits.{index_limit, most_power}

-- a table of 2^power slots, then count keys, then count exports, as its bytes from the first slot on, and the string
-- table
pub record ExportTable : Type 0 where
  pub power : ℕ
  pub count : ℕ
  pub bytes : List ℕ
  pub strings : List ℕ

-- the bytes of a slot, of a key and of an export
abbrev pub slot_size : ℕ
slot_size = 4

abbrev pub key_size : ℕ
key_size = 4

abbrev pub export_size : ℕ
export_size = 10

-- offsets: slot s, key i after the 2^power slots, and export i after the keys
abbrev pub slot_place : ℕ → ℕ
slot_place s = slot_size * s

abbrev pub key_place : ℕ → ℕ → ℕ
key_place power i = slot_place (2 ^ power) + key_size * i

abbrev pub export_place : ℕ → ℕ → ℕ → ℕ
export_place power count i = key_place power count + export_size * i

-- there are no exports, or the bytes begin with the slots, the keys and the exports
abbrev pub has_table : ℕ → ℕ → List ℕ → Bool
has_table power count bytes =
    count == 0 || (nat_le power most_power && nat_le (slot_place (2 ^ power) + (key_size + export_size) * count) (length bytes))

-- slot word s
unfoldable pub slot_word_of : ExportTable → ℕ → Option ℕ
slot_word_of t s = if nat_lt s (2 ^ t.power) then number_at 4 t.bytes (slot_place s) else None

-- a slot word has the number of its slot's keys above the index of the first of them
abbrev pub slot_word : ℕ → ℕ → ℕ
slot_word count first = count * index_limit + first

abbrev pub slot_count : ℕ → ℕ
slot_count word = word / index_limit

abbrev pub slot_first : ℕ → ℕ
slot_first word = word % index_limit

-- the key of export i: its hash word
unfoldable pub key_of : ExportTable → ℕ → Option ℕ
key_of t i = if nat_lt i t.count then number_at 4 t.bytes (key_place t.power i) else None

-- an export, and where its name begins
abbrev pub Entry : Type 0
Entry = Named ExportFields ℕ

-- an export in its 10 bytes: a class byte, whose low four bits count, with a name offset of 24 bits, then a value and a
-- section
unfoldable pub entry_at : List ℕ → ℕ → Option Entry
entry_at bytes at = do
  word ← number_at 4 bytes at
  value ← number_at 4 bytes (at + 4)
  section ← signed_at w16 2 bytes (at + 8)
  Some (record { fields = record { class = word / 2 ^ 24 % 16; section = section; value = value }; name = word % 2 ^ 24 })

-- export i
unfoldable pub entry_of : ExportTable → ℕ → Option Entry
entry_of t i = if nat_lt i t.count then entry_at t.bytes (export_place t.power t.count i) else None

-- the name of export i: as many bytes of the strings as its key's high 16 bits say, from its name offset on
unfoldable pub name_of : ExportTable → ℕ → Option (List ℕ)
name_of t i = do
  key ← key_of t i
  entry ← entry_of t i
  part_of t.strings entry.name (key / 2 ^ 16)

-- whether export i has this name
abbrev pub is_named : ExportTable → List ℕ → ℕ → Bool
is_named t name i = option_map_or (λ found. bytes_eq found name) (name_of t i) false

-- i, if export i has this name
abbrev pub named_at : ExportTable → List ℕ → ℕ → Option ℕ
named_at t name i = if is_named t name i then Some i else None

-- the first export that has this name, whatever hash words and slots say (this project's own)
unfoldable pub export_named : ExportTable → List ℕ → Option ℕ
export_named t name = first_among (named_at t name) 0 t.count
