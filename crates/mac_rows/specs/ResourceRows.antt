-- What is printed of the resources of a file: for each its type, its id and its name, and where its bytes are in the file
-- (Inside Macintosh: More Macintosh Toolbox, "Resource Manager", "Resource File Format").
use Rattle.std.specs.Prelude.{ℕ, ◌+◌, ◌/◌, Bool, true, false, List, [], ◌∷◌, ◌++◌, Option, None, Some, Result, Ok, Err, codes, decimal, length}
use Rattle.byteorder.specs.Endian.{big_bytes}
use Rattle.mac_forks.specs.Parts.{Lying}
use Rattle.mac_resources.specs.Fork.{ForkIs}
use Rattle.mac_resources.specs.Resources.{ResourceIs, all_resources}
use Rattle.mac_resources.specs.declared.fault.ResourceFault.{ResourceFault}
use Rattle.cfm_members.specs.Contents.{readable}
use Rattle.pef_listing.specs.Listing.{magnitude, sign_text}
use Rattle.pef_ports.specs.Names.{name_text}
use Rattle.pef_rows.specs.Objects.{separator}
use Rattle.pef_rows.specs.Tokens.{at_or_dash, column_text, member_text, number_or_null, tag_text}
use Rattle.mac_rows.specs.MacParts.{WrappingIs, resources_in, wrapping_of}
use Rattle.mac_rows.specs.Sums.{up_to}
use Rattle.mac_rows.specs.declared.output_format.OutputFormat.{OutputFormat}
use Rattle.mac_rows.specs.declared.output_format.OutputFormat.TheVariants.{Text, Json}

-- a bound on how many rows of resources a file has: one for each type, and one for each 12 bytes of its map
abbrev pub rows_in : Option (Result ForkIs ResourceFault) → ℕ
rows_in None = 0
rows_in (Some (Err fault)) = 0
rows_in (Some (Ok fork)) = fork.type_count + fork.header.map_length / 12

abbrev pub rows_of : Option Lying → ℕ
rows_of None = 0
rows_of (Some part) = rows_in (resources_in part)

unfoldable pub resource_rows : List ℕ → ℕ
resource_rows bytes = rows_of (readable (wrapping_of bytes).resource_fork)

-- the offset in the file and the length of a resource's bytes, in a fork that begins at an offset of the file
abbrev pub contents_at : ℕ → Result Lying ResourceFault → Option ℕ
contents_at base (Ok part) = Some (up_to (base + part.offset))
contents_at base (Err fault) = None

abbrev pub contents_size : Result Lying ResourceFault → ℕ
contents_size (Ok part) = length part.bytes
contents_size (Err fault) = 0

-- the name of a resource, if it has one that can be read
abbrev pub known_name : Option (Result (List ℕ) ResourceFault) → Option (List ℕ)
known_name None = None
known_name (Some (Ok name)) = Some name
known_name (Some (Err fault)) = None

abbrev pub name_word : Option (List ℕ) → List ℕ
name_word None = []
name_word (Some name) = codes " name "

abbrev pub name_if : Option (List ℕ) → List ℕ
name_if None = []
name_if (Some name) = column_text name

-- the line of a resource: where its bytes are, and its type
abbrev pub resource_start : Option ℕ → ℕ → List ℕ
resource_start at type_code = at_or_dash at ++ codes " resource " ++ name_text (big_bytes 4 type_code)

-- .. its id, its name, how many bytes it has, and its attributes
unfoldable pub resource_rest : ResourceIs → List ℕ
resource_rest r =
    codes " " ++ sign_text r.reference.id ++ decimal (magnitude r.reference.id) ++ name_word (known_name r.name) ++ name_if (known_name r.name)
    ++ codes " size " ++ decimal (contents_size r.contents) ++ codes " attributes " ++ decimal r.reference.attributes ++ codes "\n"

abbrev pub resource_line : ℕ → ResourceIs → List ℕ
resource_line base r = resource_start (contents_at base r.contents) r.type_code ++ resource_rest r

-- its object: its type, its id and its name
unfoldable pub resource_front : ResourceIs → List ℕ
resource_front r =
    codes "{\"type\":\"" ++ tag_text r.type_code ++ codes "\",\"id\":" ++ sign_text r.reference.id ++ decimal (magnitude r.reference.id)
    ++ codes "," ++ member_text (codes "name") (known_name r.name)

-- .. where its bytes are and how many, and its attributes
unfoldable pub resource_back : ℕ → ResourceIs → List ℕ
resource_back base r =
    codes ",\"offset\":" ++ number_or_null (contents_at base r.contents) ++ codes ",\"length\":" ++ decimal (contents_size r.contents)
    ++ codes ",\"attributes\":" ++ decimal r.reference.attributes ++ codes "}"

abbrev pub resource_object : ℕ → ResourceIs → List ℕ
resource_object base r = resource_front r ++ resource_back base r

abbrev pub resource_text : OutputFormat → Bool → ℕ → ResourceIs → List ℕ
resource_text Text is_first base r = resource_line base r
resource_text Json is_first base r = separator is_first ++ resource_object base r

-- what is printed of a row; nothing if it can't be read, which is an error
abbrev pub row_text : OutputFormat → Bool → ℕ → Result ResourceIs ResourceFault → List ℕ
row_text form is_first base (Err fault) = []
row_text form is_first base (Ok r) = resource_text form is_first base r

abbrev pub still_first : Bool → Result ResourceIs ResourceFault → Bool
still_first is_first (Err fault) = is_first
still_first is_first (Ok r) = false

-- what is printed of all resources
abbrev pub resources_text : OutputFormat → Bool → ℕ → List (Result ResourceIs ResourceFault) → List ℕ
resources_text form is_first base [] = []
resources_text form is_first base (row ∷ rows) = row_text form is_first base row ++ resources_text form (still_first is_first row) base rows

abbrev pub fork_text : OutputFormat → ℕ → Option (Result ForkIs ResourceFault) → List ℕ
fork_text form base None = []
fork_text form base (Some (Err fault)) = []
fork_text form base (Some (Ok fork)) = resources_text form true base (all_resources fork)

abbrev pub part_text : OutputFormat → Option Lying → List ℕ
part_text form None = []
part_text form (Some part) = fork_text form part.offset (resources_in part)

-- .. of a file
abbrev pub resources_of : OutputFormat → WrappingIs → List ℕ
resources_of form w = part_text form (readable w.resource_fork)
