-- A resource fork: its header, its map and its types (Inside Macintosh: More Macintosh Toolbox, "Resource Manager",
-- "Resource File Format"). That a map or data that pass the end are read as far as they go is this project's own rule,
-- and so is which bytes can be a resource fork.
use Rattle.std.specs.Prelude.{ℕ, ◌+◌, ◌*◌, ◌%◌, ◌^◌, ◌==◌, ◌&&◌, ◌||◌, Bool, false, List, Option, None, Some, Result, Ok, Err, nat_le, nat_lt, length, take, drop, if◌then◌else◌}
use Rattle.std.specs.Option.{option_map_or}
use Rattle.pef_words.specs.Bytes.{number_at}
use Rattle.pef_words.specs.Refusals.{◌>>=◌}
use Rattle.mac_resources.specs.declared.fault.ResourceFault.{ResourceFault}
use Rattle.mac_resources.specs.declared.fault.ResourceFault.TheVariants.{ResourceMapOutside, BadTypeList, ResourceTypeCut}
use Rattle.mac_resources.specs.declared.fork.ResourceHeader.{ResourceHeader}
use Rattle.mac_resources.specs.declared.fork.ResourceMap.{ResourceMap}
use Rattle.mac_resources.specs.declared.reference.ResourceType.{ResourceType}
use Rattle.mac_resources.specs.References.{type_read}

-- the header; none if it passes the end
unfoldable pub header_of : List ℕ → Option ResourceHeader
header_of bytes = do
  data_offset ← number_at 4 bytes 0
  map_offset ← number_at 4 bytes 4
  data_length ← number_at 4 bytes 8
  map_length ← number_at 4 bytes 12
  Some (record { data_offset = data_offset; map_offset = map_offset; data_length = data_length; map_length = map_length })

-- the fields of a map; none if they pass its end
unfoldable pub map_of : List ℕ → Option ResourceMap
map_of map = do
  copy ← header_of map
  handle ← number_at 4 map 16
  file ← number_at 2 map 20
  attributes ← number_at 2 map 22
  types ← number_at 2 map 24
  names ← number_at 2 map 26
  Some (record {
    copy = copy;
    handle = handle;
    file_number = file;
    attributes = attributes;
    type_list = types;
    name_list = names;
  })

-- what there is of the len bytes from an offset
abbrev pub clipped : List ℕ → ℕ → ℕ → List ℕ
clipped bytes offset len = take len (drop offset bytes)

-- a fork: its bytes, its header, what there is of its map and data, the fields of the map, and how many types there are
pub record ForkIs : Type 0 where
  pub bytes : List ℕ
  pub header : ResourceHeader
  pub map : List ℕ
  pub fields : ResourceMap
  pub area : List ℕ
  pub type_count : ℕ

-- a fork with a header, a map and its fields, and the number of types less one; FFFF is none
abbrev pub with_types : List ℕ → ResourceHeader → List ℕ → ResourceMap → ℕ → ForkIs
with_types bytes h map m last = record {
  bytes = bytes;
  header = h;
  map = map;
  fields = m;
  area = clipped bytes h.data_offset h.data_length;
  type_count = (last + 1) % 2 ^ 16;
}

abbrev pub with_fields : List ℕ → ResourceHeader → List ℕ → ResourceMap → Result ForkIs ResourceFault
with_fields bytes h map m =
    option_map_or (λ last. Ok (with_types bytes h map m last)) (number_at 2 map m.type_list) (Err (BadTypeList (h.map_offset + 24)))

abbrev pub with_map : List ℕ → ResourceHeader → List ℕ → Result ForkIs ResourceFault
with_map bytes h map = option_map_or (with_fields bytes h map) (map_of map) (Err ResourceMapOutside)

-- the fork, or the first error: the header or the map's fields pass the end, or the type list does
unfoldable pub fork_of : List ℕ → Result ForkIs ResourceFault
fork_of bytes =
    option_map_or (λ h. with_map bytes h (clipped bytes h.map_offset h.map_length)) (header_of bytes) (Err ResourceMapOutside)

-- the error of a map that passes the end
abbrev pub map_is_cut : ForkIs → Option ResourceFault
map_is_cut f = if nat_lt (length f.bytes) (f.header.map_offset + f.header.map_length) then Some ResourceMapOutside else None

-- data and map lie in a fork of some length, after the header and apart from each other
abbrev pub is_apart : ResourceHeader → ℕ → Bool
is_apart h len = nat_le 16 h.data_offset && nat_le 16 h.map_offset
    && nat_le (h.data_offset + h.data_length) len && nat_le (h.map_offset + h.map_length) len
    && (nat_le (h.data_offset + h.data_length) h.map_offset || nat_le (h.map_offset + h.map_length) h.data_offset)

-- .. and the type list lies in the map after its fields
abbrev pub can_be_fork : List ℕ → Result ForkIs ResourceFault → Bool
can_be_fork bytes (Ok f) = nat_le 28 f.fields.type_list && is_apart f.header (length bytes)
can_be_fork bytes (Err fault) = false

unfoldable pub is_consistent : List ℕ → Bool
is_consistent bytes = can_be_fork bytes (fork_of bytes)

-- a header whose map follows the data, in a fork that ends before the map does
abbrev pub is_cut : ResourceHeader → ℕ → Bool
is_cut h len = nat_le 16 h.data_offset && h.data_offset + h.data_length == h.map_offset && nat_le 30 h.map_length
    && nat_lt len (h.map_offset + h.map_length)

-- some bytes have the form of a resource fork: they can be one, or the first bytes of one
unfoldable pub has_form : List ℕ → Bool
has_form bytes = is_consistent bytes || option_map_or (λ h. is_cut h (length bytes)) (header_of bytes) false

-- where the row of a type begins in the map: the rows follow their number
abbrev pub type_from : ForkIs → ℕ → ℕ
type_from f t = f.fields.type_list + 2 + 8 * t

-- the row of a type, or its error
abbrev pub type_in : ForkIs → ℕ → Result ResourceType ResourceFault
type_in f t = option_map_or Ok (type_read f.map (type_from f t)) (Err (ResourceTypeCut t (f.header.map_offset + type_from f t)))

-- .. none past the last one
abbrev pub type_of : ForkIs → ℕ → Option (Result ResourceType ResourceFault)
type_of f t = if nat_lt t f.type_count then Some (type_in f t) else None
