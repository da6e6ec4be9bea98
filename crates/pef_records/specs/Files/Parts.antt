-- The parts of a file of the classic Mac OS as C sees them. An error of 0 says that a part is there, and one of 201 that
-- there is none.
use Rattle.std.specs.Prelude.{ℕ, pos, List, [], Option, None, Some, Result, Ok, Err}
use Rattle.std.specs.Option.{unwrap_or}
use Rattle.mac_forks.specs.Faults.{fault_number, fault_offset}
use Rattle.mac_forks.specs.MacFile.{MacFileIs, comment_in, cuts_of, fault_in, finder_of_file, name_in}
use Rattle.mac_forks.specs.Parts.{Lying}
use Rattle.mac_forks.specs.declared.fault.ForkFault.{ForkFault}
use Rattle.mac_forks.specs.declared.finder.FinderInfo.{FinderInfo}
use Rattle.cfm_members.specs.Forks.{data_fork_of, resource_fork_of}
use Rattle.cfm_members.specs.Kinds.{kind_of}
use Rattle.cfm_members.specs.declared.file_kind.FileKind.{FileKind}
use Rattle.cfm_members.specs.declared.file_kind.FileKind.TheVariants as kind
use Rattle.pef_records.specs.Places.{no_offset}
use Rattle.pef_records.specs.declared.files.structs.PefFinder.{PefFinder}
use Rattle.pef_records.specs.declared.files.structs.PefForks.{PefForks}
use Rattle.pef_records.specs.declared.files.structs.PefPart.{PefPart}

abbrev pub offset_or_none : Option ℕ → ℕ
offset_or_none offset = unwrap_or offset no_offset

-- a part: its bytes, its offset in the file, and its error with the offset of that
pub record PartRow : Type 0 where
  pub bytes : List ℕ
  pub offset : ℕ
  pub error : ℕ
  pub error_offset : ℕ

abbrev pub part_shown : PefPart → PartRow
part_shown p = record { bytes = p.bytes.now; offset = p.offset; error = p.error; error_offset = p.error_offset }

abbrev pub part_row : Option (Result Lying ForkFault) → PartRow
part_row None = record { bytes = []; offset = 0; error = 201; error_offset = no_offset }
part_row (Some (Ok part)) = record { bytes = part.bytes; offset = part.offset; error = 0; error_offset = no_offset }
part_row (Some (Err fault)) = record { bytes = []; offset = 0; error = fault_number fault; error_offset = offset_or_none (fault_offset fault) }

-- a part of MacBinary that passes the end: it has its error beside the bytes that are there
abbrev pub cut_row : Option ForkFault → PartRow → PartRow
cut_row None part = part
cut_row (Some fault) part = record part { error = fault_number fault; error_offset = offset_or_none (fault_offset fault) }

-- what the Finder knows of a file. If that isn't there, all its fields are 0
abbrev pub finder_with : FinderInfo → PefFinder
finder_with f = record {
  error_offset = no_offset;
  error = 0;
  file_type = f.file_type;
  creator = f.creator;
  flags = f.flags;
  vertical = f.vertical;
  horizontal = f.horizontal;
  window = f.window;
}

abbrev pub finder_without : ℕ → ℕ → PefFinder
finder_without error offset = record {
  error_offset = offset;
  error = error;
  file_type = 0;
  creator = 0;
  flags = 0;
  vertical = pos 0;
  horizontal = pos 0;
  window = 0;
}

abbrev pub finder_row : Option (Result FinderInfo ForkFault) → PefFinder
finder_row None = finder_without 201 no_offset
finder_row (Some (Ok f)) = finder_with f
finder_row (Some (Err fault)) = finder_without (fault_number fault) (offset_or_none (fault_offset fault))

-- the codes of what a file is (PEF_FILE_OTHER and those after it)
abbrev pub kind_code : FileKind → ℕ
kind_code kind.Other = 0
kind_code kind.Container = 1
kind_code kind.MacBinary = 2
kind_code kind.AppleSingle = 3
kind_code kind.AppleDouble = 4
kind_code kind.DamagedApple = 5
kind_code kind.ResourceFork = 6

-- a file: its parts, the error of its header with the offset of that, and what it is
pub record ForksRow : Type 0 where
  pub data_fork : PartRow
  pub resource_fork : PartRow
  pub name : PartRow
  pub comment : PartRow
  pub finder : PefFinder
  pub error : ℕ
  pub error_offset : ℕ
  pub kind : ℕ

abbrev pub forks_shown : PefForks → ForksRow
forks_shown f = record {
  data_fork = part_shown f.data_fork;
  resource_fork = part_shown f.resource_fork;
  name = part_shown f.name;
  comment = part_shown f.comment;
  finder = f.finder;
  error = f.error;
  error_offset = f.error_offset;
  kind = f.kind;
}

abbrev pub header_error : Option ForkFault → ℕ
header_error None = 0
header_error (Some fault) = fault_number fault

abbrev pub header_error_offset : Option ForkFault → ℕ
header_error_offset None = no_offset
header_error_offset (Some fault) = offset_or_none (fault_offset fault)

abbrev pub forks_row : List ℕ → MacFileIs → ForksRow
forks_row bytes file = record {
  data_fork = cut_row (cuts_of file).data_fork (part_row (data_fork_of bytes file));
  resource_fork = cut_row (cuts_of file).resource_fork (part_row (resource_fork_of bytes file));
  name = part_row (name_in file);
  comment = cut_row (cuts_of file).comment (part_row (comment_in file));
  finder = finder_row (finder_of_file file);
  error = header_error (fault_in file);
  error_offset = header_error_offset (fault_in file);
  kind = kind_code (kind_of bytes);
}
