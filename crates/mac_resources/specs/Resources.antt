-- The resources of a fork, with their names and bytes (Inside Macintosh: More Macintosh Toolbox, "Resource Manager",
-- "Resource File Format"). Which resource has a type and an id if several have, and that a list of references ends at
-- one that is cut, are this project's own rules. So is the number of references that a map may have, which keeps a walk
-- over all of them linear.
use Rattle.std.specs.Prelude.{ℕ, zero, suc, ◌+◌, ◌-◌, ◌*◌, ◌/◌, ◌==◌, List, [], ◌∷◌, ◌++◌, Option, None, Some, Result, Ok, Err, nat_lt, length, if◌then◌else◌}
use Rattle.std.specs.Option.{option_map_or}
use Rattle.std.specs.Ordering.{int_eq}
use Rattle.std.specs.Prelude.{ℤ}
use Rattle.pef_words.specs.Bytes.{number_at, part_of}
use Rattle.pef_words.specs.Refusals.{◌>>=◌, first_among}
use Rattle.mac_forks.specs.Parts.{Lying}
use Rattle.mac_resources.specs.declared.fault.ResourceFault.{ResourceFault}
use Rattle.mac_resources.specs.declared.fault.ResourceFault.TheVariants.{TooManyReferences, ReferenceCut, ResourceNameCut, ResourceDataOutside}
use Rattle.mac_resources.specs.declared.reference.Reference.{Reference}
use Rattle.mac_resources.specs.declared.reference.ResourceType.{ResourceType}
use Rattle.mac_resources.specs.declared.resource.ReferenceList.{ReferenceList}
use Rattle.mac_resources.specs.Fork.{ForkIs, type_from, type_in}
use Rattle.mac_resources.specs.References.{list_count, reference_read}

-- a resource: its type, its rows, its reference, its name and its bytes
pub record ResourceIs : Type 0 where
  pub type_code : ℕ
  pub type_row : ℕ
  pub row : ℕ
  pub reference : Reference
  pub name : Option (Result (List ℕ) ResourceFault)
  pub contents : Result Lying ResourceFault

-- where the reference in a row of a type's list begins in the map, and where a field of it is in the fork
abbrev pub reference_from : ForkIs → ReferenceList → ℕ → ℕ
reference_from f list i = f.fields.type_list + list.kind.list_offset + 12 * i

abbrev pub field_in : ForkIs → ReferenceList → ℕ → ℕ → ℕ
field_in f list i field = f.header.map_offset + reference_from f list i + field

-- the bytes after a byte that is their number; none if they pass the end
unfoldable pub pascal : List ℕ → ℕ → Option (List ℕ)
pascal map at = number_at 1 map at >>= part_of map (at + 1)

-- the bytes after four bytes that are their number; none if they pass the end
unfoldable pub length_and_bytes : List ℕ → ℕ → Option (List ℕ)
length_and_bytes area at = number_at 4 area at >>= part_of area (at + 4)

-- the name of a resource, or its error; none if its offset is FFFF
abbrev pub name_in : ForkIs → ReferenceList → ℕ → Reference → Option (Result (List ℕ) ResourceFault)
name_in f list i r =
    if r.name_offset == 0xFFFF then None
    else Some (option_map_or Ok (pascal f.map (f.fields.name_list + r.name_offset))
    (Err (ResourceNameCut list.type_row i (field_in f list i 2))))

-- the bytes of a resource, or their error
abbrev pub contents_in : ForkIs → ReferenceList → ℕ → Reference → Result Lying ResourceFault
contents_in f list i r =
    option_map_or (λ bytes. Ok (record { offset = f.header.data_offset + r.data_offset + 4; bytes = bytes }))
    (length_and_bytes f.area r.data_offset) (Err (ResourceDataOutside list.type_row i (field_in f list i 4)))

-- the resource of a reference
abbrev pub with_reference : ForkIs → ReferenceList → ℕ → Reference → ResourceIs
with_reference f list i r = record {
  type_code = list.kind.code;
  type_row = list.type_row;
  row = i;
  reference = r;
  name = name_in f list i r;
  contents = contents_in f list i r;
}

-- the resource in a row of a type's list, or its error
abbrev pub resource_in : ForkIs → ReferenceList → ℕ → Result ResourceIs ResourceFault
resource_in f list i =
    option_map_or (λ r. Ok (with_reference f list i r)) (reference_read f.map (reference_from f list i))
    (Err (ReferenceCut list.type_row i (f.header.map_offset + reference_from f list i)))

-- the resource in a row of the list of a type; none past the last one
abbrev pub in_list : ForkIs → ℕ → ℕ → Result ResourceType ResourceFault → Option (Result ResourceIs ResourceFault)
in_list f t i (Err fault) = Some (Err fault)
in_list f t i (Ok k) = if nat_lt i (list_count k) then Some (resource_in f (record { type_row = t; kind = k }) i) else None

-- the resource by the row of its type and its row in the list; none if there is no such row
unfoldable pub resource_of : ForkIs → ℕ → ℕ → Option (Result ResourceIs ResourceFault)
resource_of f t i = if nat_lt t f.type_count then in_list f t i (type_in f t) else None

-- the list of a type if it has a code
abbrev pub list_if : ℕ → ℕ → Result ResourceType ResourceFault → Option ReferenceList
list_if code t (Ok k) = if k.code == code then Some (record { type_row = t; kind = k }) else None
list_if code t (Err fault) = None

abbrev pub list_here : ForkIs → ℕ → ℕ → Option ReferenceList
list_here f code t = list_if code t (type_in f t)

-- the list of the first type with a code
abbrev pub list_with : ForkIs → ℕ → Option ReferenceList
list_with f code = first_among (list_here f code) 0 f.type_count

-- the resource in a row of a list if it has an id
abbrev pub resource_here : ForkIs → ReferenceList → ℤ → ℕ → Option ResourceIs
resource_here f list id i =
    reference_read f.map (reference_from f list i) >>= (λ r. if int_eq r.id id then Some (with_reference f list i r) else None)

-- the first resource of a list with an id
abbrev pub first_with : ForkIs → ReferenceList → ℤ → Option ResourceIs
first_with f list id = first_among (resource_here f list id) 0 (list_count list.kind)

-- the resource with a type and an id
abbrev pub resource_with : ForkIs → ℕ → ℤ → Option ResourceIs
resource_with f code id = list_with f code >>= (λ list. first_with f list id)

-- a row, and the others of the list if it isn't cut
abbrev pub row_then : Result ResourceIs ResourceFault → List (Result ResourceIs ResourceFault) → List (Result ResourceIs ResourceFault)
row_then (Ok r) others = Ok r ∷ others
row_then (Err fault) others = Err fault ∷ []

-- n rows of a list from a row on, up to one that is cut
unfoldable pub rows_of : ForkIs → ReferenceList → ℕ → ℕ → List (Result ResourceIs ResourceFault)
rows_of f list i zero = []
rows_of f list i (suc n) = row_then (resource_in f list i) (rows_of f list (i + 1) n)

-- the rows of a type's list and those of the other types: if the type's row is cut, only its error; if the list has more
-- references than are left, its error in place of its rows
abbrev pub list_then : ForkIs → ℕ → ℕ → (ℕ → List (Result ResourceIs ResourceFault)) → Result ResourceType ResourceFault → List (Result ResourceIs ResourceFault)
list_then f t budget others (Err fault) = Err fault ∷ []
list_then f t budget others (Ok k) =
    if nat_lt budget (list_count k) then Err (TooManyReferences t (f.header.map_offset + type_from f t + 4)) ∷ others budget
    else rows_of f (record { type_row = t; kind = k }) 0 (list_count k) ++ others (budget - list_count k)

-- the rows of n types from one on, whose lists may have so many references
unfoldable pub lists_of : ForkIs → ℕ → ℕ → ℕ → List (Result ResourceIs ResourceFault)
lists_of f t zero budget = []
lists_of f t (suc n) budget = list_then f t budget (lists_of f (t + 1) n) (type_in f t)

-- all resources of a fork and their errors. A reference has 12 bytes, so a map has no more of them than bytes for it
unfoldable pub all_resources : ForkIs → List (Result ResourceIs ResourceFault)
all_resources f = lists_of f 0 f.type_count (length f.map / 12)
