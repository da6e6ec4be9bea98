-- Resources and members of a table of fragments as C sees them. An error of 0 says that a part is there, and one of 201 that
-- there is none.
use Rattle.std.specs.Prelude.{ℕ, ℤ, pos, List, [], Option, None, Some, Result, Ok, Err}
use Rattle.mac_forks.specs.Parts.{Lying}
use Rattle.mac_resources.specs.Faults as resource_fault
use Rattle.mac_resources.specs.Fork.{ForkIs, map_is_cut}
use Rattle.mac_resources.specs.Resources.{ResourceIs}
use Rattle.mac_resources.specs.declared.fault.ResourceFault.{ResourceFault}
use Rattle.mac_resources.specs.declared.fault.ResourceFault.TheVariants.{ResourceMapOutside, BadTypeList, ResourceTypeCut, TooManyReferences, ReferenceCut, ResourceNameCut, ResourceDataOutside}
use Rattle.cfm_members.specs.Faults.{fault_number, fault_offset}
use Rattle.cfm_members.specs.Members.{MemberIs, container_in}
use Rattle.cfm_members.specs.declared.fault.MemberFault.{MemberFault}
use Rattle.pef_records.specs.Places.{no_offset}
use Rattle.pef_records.specs.declared.files.resources.HeldBytes.{HeldBytes}
use Rattle.pef_records.specs.declared.files.structs.PefMember.{PefMember}
use Rattle.pef_records.specs.declared.files.structs.PefResource.{PefResource}
use Rattle.pef_records.specs.declared.files.structs.PefResourceMap.{PefResourceMap}

-- the map of a fork
abbrev pub map_error : Option ResourceFault → ℕ
map_error None = 0
map_error (Some fault) = resource_fault.fault_number fault

abbrev pub map_error_offset : Option ResourceFault → ℕ
map_error_offset None = no_offset
map_error_offset (Some fault) = resource_fault.fault_offset fault

abbrev pub map_row : ForkIs → PefResourceMap
map_row f = record {
  error_offset = map_error_offset (map_is_cut f);
  error = map_error (map_is_cut f);
  data_offset = f.header.data_offset;
  map_offset = f.header.map_offset;
  data_length = f.header.data_length;
  map_length = f.header.map_length;
  attributes = f.fields.attributes;
  type_count = f.type_count;
}

-- a name or some bytes: what there is, and the error with its offset
pub record Held : Type 0 where
  pub bytes : List ℕ
  pub offset : ℕ
  pub error : ℕ
  pub error_offset : ℕ

abbrev pub held_seen : HeldBytes → Held
held_seen h = record { bytes = h.bytes.now; offset = h.offset; error = h.error; error_offset = h.error_offset }

abbrev pub held_name : Option (Result (List ℕ) ResourceFault) → Held
held_name None = record { bytes = []; offset = 0; error = 201; error_offset = no_offset }
held_name (Some (Ok name)) = record { bytes = name; offset = 0; error = 0; error_offset = no_offset }
held_name (Some (Err fault)) = record { bytes = []; offset = 0; error = resource_fault.fault_number fault; error_offset = resource_fault.fault_offset fault }

abbrev pub held_contents : Result Lying ResourceFault → Held
held_contents (Ok part) = record { bytes = part.bytes; offset = part.offset; error = 0; error_offset = no_offset }
held_contents (Err fault) = record { bytes = []; offset = 0; error = resource_fault.fault_number fault; error_offset = resource_fault.fault_offset fault }

-- a resource: its name, its bytes, and what the map says of it
pub record ResourceRow : Type 0 where
  pub name : Held
  pub contents : Held
  pub type_code : ℕ
  pub id : ℤ
  pub type_row : ℕ
  pub row : ℕ
  pub attributes : ℕ

abbrev pub resource_shown : PefResource → ResourceRow
resource_shown r = record {
  name = record { bytes = r.name.now; offset = 0; error = r.name_error; error_offset = r.name_error_offset };
  contents = record { bytes = r.bytes.now; offset = r.offset; error = r.error; error_offset = r.error_offset };
  type_code = r.type_code;
  id = r.id;
  type_row = r.type_row;
  row = r.row;
  attributes = r.attributes;
}

-- the rows that an error is about
abbrev pub type_row_of : ResourceFault → ℕ
type_row_of ResourceMapOutside = 0
type_row_of (BadTypeList offset) = 0
type_row_of (ResourceTypeCut type_row offset) = type_row
type_row_of (TooManyReferences type_row offset) = type_row
type_row_of (ReferenceCut type_row row offset) = type_row
type_row_of (ResourceNameCut type_row row offset) = type_row
type_row_of (ResourceDataOutside type_row row offset) = type_row

abbrev pub row_of : ResourceFault → ℕ
row_of ResourceMapOutside = 0
row_of (BadTypeList offset) = 0
row_of (ResourceTypeCut type_row offset) = 0
row_of (TooManyReferences type_row offset) = 0
row_of (ReferenceCut type_row row offset) = row
row_of (ResourceNameCut type_row row offset) = row
row_of (ResourceDataOutside type_row row offset) = row

abbrev pub resource_row : Result ResourceIs ResourceFault → ResourceRow
resource_row (Ok r) = record {
  name = held_name r.name;
  contents = held_contents r.contents;
  type_code = r.type_code;
  id = r.reference.id;
  type_row = r.type_row;
  row = r.row;
  attributes = r.reference.attributes;
}
resource_row (Err fault) = record {
  name = held_name None;
  contents = held_contents (Err fault);
  type_code = 0;
  id = pos 0;
  type_row = type_row_of fault;
  row = row_of fault;
  attributes = 0;
}

-- a member: its name, its container in the data fork, and all else
pub record MemberRow : Type 0 where
  pub name : List ℕ
  pub container : List ℕ
  pub container_error : ℕ
  pub container_error_offset : ℕ
  pub place : ℕ
  pub name_error : ℕ
  pub name_error_offset : ℕ
  pub error : ℕ
  pub error_offset : ℕ
  pub architecture : ℕ
  pub update_level : ℕ
  pub current_version : ℕ
  pub old_def_version : ℕ
  pub stack_size : ℕ
  pub directory_or_flags : ℕ
  pub usage : ℕ
  pub locator : ℕ
  pub offset : ℕ
  pub length : ℕ
  pub space_id : ℕ
  pub fork_instance : ℕ
  pub extension_count : ℕ
  pub size : ℕ

abbrev pub member_shown : PefMember → MemberRow
member_shown m = record {
  name = m.name.now;
  container = m.container.now;
  container_error = m.container_error;
  container_error_offset = m.container_error_offset;
  place = m.place;
  name_error = m.name_error;
  name_error_offset = m.name_error_offset;
  error = m.error;
  error_offset = m.error_offset;
  architecture = m.architecture;
  update_level = m.update_level;
  current_version = m.current_version;
  old_def_version = m.old_def_version;
  stack_size = m.stack_size;
  directory_or_flags = m.directory_or_flags;
  usage = m.usage;
  locator = m.locator;
  offset = m.offset;
  length = m.length;
  space_id = m.space_id;
  fork_instance = m.fork_instance;
  extension_count = m.extension_count;
  size = m.size;
}

abbrev pub name_given : Result (List ℕ) MemberFault → List ℕ
name_given (Ok name) = name
name_given (Err fault) = []

abbrev pub name_error : Result (List ℕ) MemberFault → ℕ
name_error (Ok name) = 0
name_error (Err fault) = fault_number fault

abbrev pub name_error_offset : Result (List ℕ) MemberFault → ℕ
name_error_offset (Ok name) = no_offset
name_error_offset (Err fault) = fault_offset fault

abbrev pub size_error : Option MemberFault → ℕ
size_error None = 0
size_error (Some fault) = fault_number fault

abbrev pub size_error_offset : Option MemberFault → ℕ
size_error_offset None = no_offset
size_error_offset (Some fault) = fault_offset fault

-- a container in the data fork
abbrev pub container_given : Option (Result Lying MemberFault) → List ℕ
container_given None = []
container_given (Some (Ok part)) = part.bytes
container_given (Some (Err fault)) = []

abbrev pub container_error : Option (Result Lying MemberFault) → ℕ
container_error None = 201
container_error (Some (Ok part)) = 0
container_error (Some (Err fault)) = fault_number fault

abbrev pub container_error_offset : Option (Result Lying MemberFault) → ℕ
container_error_offset None = no_offset
container_error_offset (Some (Ok part)) = no_offset
container_error_offset (Some (Err fault)) = fault_offset fault

abbrev pub member_row : List ℕ → Result MemberIs MemberFault → MemberRow
member_row fork (Ok m) = record {
  name = name_given m.name;
  container = container_given (container_in m fork);
  container_error = container_error (container_in m fork);
  container_error_offset = container_error_offset (container_in m fork);
  place = m.offset;
  name_error = name_error m.name;
  name_error_offset = name_error_offset m.name;
  error = size_error m.fault;
  error_offset = size_error_offset m.fault;
  architecture = m.header.architecture;
  update_level = m.header.update_level;
  current_version = m.header.current_version;
  old_def_version = m.header.old_def_version;
  stack_size = m.header.stack_size;
  directory_or_flags = m.header.directory_or_flags;
  usage = m.header.usage_code;
  locator = m.header.where_code;
  offset = m.header.offset;
  length = m.header.length;
  space_id = m.header.space_id;
  fork_instance = m.header.fork_instance;
  extension_count = m.header.extension_count;
  size = m.header.size;
}
member_row fork (Err fault) = record {
  name = [];
  container = [];
  container_error = 201;
  container_error_offset = no_offset;
  place = fault_offset fault;
  name_error = 201;
  name_error_offset = no_offset;
  error = fault_number fault;
  error_offset = fault_offset fault;
  architecture = 0;
  update_level = 0;
  current_version = 0;
  old_def_version = 0;
  stack_size = 0;
  directory_or_flags = 0;
  usage = 0;
  locator = 0;
  offset = 0;
  length = 0;
  space_id = 0;
  fork_instance = 0;
  extension_count = 0;
  size = 0;
}
