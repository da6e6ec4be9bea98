-- The other file that has the data fork, if a file has the resource fork alone: what its members are looked up in, and what
-- is printed of it. Which files can be such a pair is this project's own.
use Rattle.std.specs.Prelude.{ℕ, Bool, true, false, ◌||◌, List, ◌++◌, Option, None, Some, Result, Ok, Err, codes, decimal}
use Rattle.std.specs.Option.{is_some}
use Rattle.pef_words.specs.Refusals.{◌>>=◌}
use Rattle.mac_forks.specs.MacFile.{MacFileIs, mac_file_of}
use Rattle.mac_forks.specs.Parts.{Lying}
use Rattle.mac_forks.specs.declared.fault.ForkFault.{ForkFault}
use Rattle.mac_resources.specs.Fork.{ForkIs}
use Rattle.mac_resources.specs.declared.fault.ResourceFault.{ResourceFault}
use Rattle.cfm_members.specs.Contents.{readable}
use Rattle.cfm_members.specs.Forks.{data_fork_of}
use Rattle.cfm_members.specs.Kinds.{kind_of}
use Rattle.cfm_members.specs.declared.file_kind.FileKind.{FileKind}
use Rattle.cfm_members.specs.declared.file_kind.FileKind.TheVariants.{Container, MacBinary, AppleSingle, AppleDouble, DamagedApple, ResourceFork, Other}
use Rattle.pef_ports.specs.Names.{name_text}
use Rattle.pef_rows.specs.Tokens.{path_text}
use Rattle.pef_rows.specs.Unicode.{text_value}
use Rattle.mac_rows.specs.MacParts.{MemberTableIs, WrappingIs, member_table_of, resources_in, wrapping_of}
use Rattle.mac_rows.specs.declared.member_table.FileError.{FileError}

-- the file that has the data fork
pub record DataFileIs : Type 0 where
  pub path : List ℕ
  pub bytes : List ℕ

-- the data fork of a file
abbrev pub data_fork_in : List ℕ → Result MacFileIs ForkFault → Option Lying
data_fork_in bytes (Ok file) = readable (data_fork_of bytes file)
data_fork_in bytes (Err fault) = None

-- the data fork that members are looked up in: that of the other file if there is one, else the file's own
abbrev pub members_fork : Option DataFileIs → Option (Result Lying ForkFault) → Option Lying
members_fork None own = readable own
members_fork (Some other) own = data_fork_in other.bytes (mac_file_of other.bytes)

-- a table of fragments without its error
abbrev pub whole_table : Option (Result MemberTableIs FileError) → Option MemberTableIs
whole_table None = None
whole_table (Some (Ok t)) = Some t
whole_table (Some (Err found)) = None

abbrev pub member_table_at : Option Lying → ℕ → Option (Result ForkIs ResourceFault) → Option MemberTableIs
member_table_at data_fork base None = None
member_table_at data_fork base (Some (Ok fork)) = whole_table (member_table_of data_fork base fork)
member_table_at data_fork base (Some (Err fault)) = None

-- the table of fragments of a file, if it can be read
abbrev pub member_table_in : Option DataFileIs → WrappingIs → Option MemberTableIs
member_table_in other w = readable w.resource_fork >>= (λ part. member_table_at (members_fork other w.data_fork) part.offset (resources_in part))

-- a file can be a data fork whose resource fork is in another file
abbrev pub is_fork_kind : FileKind → Bool
is_fork_kind Container = true
is_fork_kind MacBinary = false
is_fork_kind AppleSingle = false
is_fork_kind AppleDouble = false
is_fork_kind DamagedApple = false
is_fork_kind ResourceFork = false
is_fork_kind Other = true

unfoldable pub is_data_fork : List ℕ → Bool
is_data_fork bytes = is_fork_kind (kind_of bytes)

-- a file with these forks has a resource fork that isn't empty, or one that can't be read. If its header or a row of its entries is
-- damaged, it may have lost one
abbrev pub has_fork : WrappingIs → Option (Result Lying ForkFault) → Bool
has_fork w None = is_some w.fault || is_some w.cut
has_fork w (Some (Ok part)) = is_some (resources_in part)
has_fork w (Some (Err fault)) = true

-- a file has a resource fork, which may be damaged
unfoldable pub is_resource_file : List ℕ → Bool
is_resource_file bytes = has_fork (wrapping_of bytes) (wrapping_of bytes).resource_fork

-- the first line of a file whose data fork is in another file
unfoldable pub paired_line : List ℕ → ℕ → List ℕ → List ℕ → List ℕ
paired_line path size format other =
    codes "file " ++ name_text path ++ codes " size " ++ decimal size ++ codes " format " ++ format ++ codes " data "
    ++ name_text other ++ codes "\n"

-- the beginning of the object of a file whose data fork is in another file
unfoldable pub paired_object : List ℕ → ℕ → List ℕ → List ℕ → List ℕ
paired_object path size format other =
    codes "{\"file\":" ++ text_value path ++ codes ",\"file_bytes\":\"" ++ path_text path ++ codes "\",\"data\":" ++ text_value other
    ++ codes ",\"data_bytes\":\"" ++ path_text other ++ codes "\",\"size\":" ++ decimal size
    ++ codes ",\"format\":\"" ++ format ++ codes "\",\"forks\":["
