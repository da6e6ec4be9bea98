-- What a file of the classic Mac OS has: its forks, its resource fork, its table of fragments, and where their containers
-- are in the file.
use Rattle.std.specs.Prelude.{ℕ, ◌+◌, ◌%◌, ◌^◌, ◌==◌, pos, List, Option, None, Some, Result, Ok, Err, length, if◌then◌else◌}
use Rattle.std.specs.Int.{cast_signed, w16}
use Rattle.pef_words.specs.Refusals.{◌>>=◌, first_among}
use Rattle.mac_forks.specs.Apple.{AppleIs, entry_of}
use Rattle.mac_forks.specs.MacFile.{MacFileIs, apple, bare, cuts_of, data_fork_in, end_in, fault_in, mac_binary, mac_file_of, no_cuts}
use Rattle.mac_forks.specs.declared.mac_binary.MacBinaryCuts.{MacBinaryCuts}
use Rattle.mac_forks.specs.Parts.{Lying}
use Rattle.mac_forks.specs.declared.apple.AppleEntry.{AppleEntry}
use Rattle.mac_forks.specs.declared.fault.ForkFault.{ForkFault}
use Rattle.mac_resources.specs.Fork.{ForkIs, fork_of}
use Rattle.mac_resources.specs.Resources.{ResourceIs, resource_with}
use Rattle.mac_resources.specs.declared.fault.ResourceFault.{ResourceFault}
use Rattle.cfm_members.specs.Forks.{resource_fork_of}
use Rattle.cfm_members.specs.Members.{MemberIs, TableIs, container_in, locator_of, table_of}
use Rattle.cfm_members.specs.declared.fault.MemberFault.{MemberFault}
use Rattle.cfm_members.specs.declared.member_lookup_fault.MemberLookupFault.TheVariants.{Member, NoContainer}
use Rattle.cfm_members.specs.declared.member.Locator.{Locator}
use Rattle.cfm_members.specs.declared.member.Locator.TheVariants as locator
use Rattle.mac_rows.specs.Sums.{up_to}
use Rattle.mac_rows.specs.declared.member_table.FileError.{FileError}

-- the error of a file's header, where the parts of MacBinary end, the error of its rows of entries, and its forks, each with the
-- error of its entry
pub record WrappingIs : Type 0 where
  pub fault : Option ForkFault
  pub cuts : MacBinaryCuts
  pub end : Option ℕ
  pub cut : Option ForkFault
  pub data_fork : Option (Result Lying ForkFault)
  pub resource_fork : Option (Result Lying ForkFault)

-- the data fork, unless the file is nothing else
abbrev pub wrapped_data : MacFileIs → Option (Result Lying ForkFault)
wrapped_data (bare bytes) = None
wrapped_data (mac_binary m) = data_fork_in (mac_binary m)
wrapped_data (apple a) = data_fork_in (apple a)

-- the error of an entry's row: it passes the end
abbrev pub row_error : Option (Result AppleEntry ForkFault) → Option ForkFault
row_error None = None
row_error (Some (Ok entry)) = None
row_error (Some (Err fault)) = Some fault

abbrev pub row_error_at : AppleIs → ℕ → Option ForkFault
row_error_at a i = row_error (entry_of a i)

-- the error of the first row that passes the end. Those after it pass the end, too
abbrev pub cut_in : MacFileIs → Option ForkFault
cut_in (bare bytes) = None
cut_in (mac_binary m) = None
cut_in (apple a) = first_among (row_error_at a) 0 a.header.entry_count

abbrev pub wrapping_in : List ℕ → Result MacFileIs ForkFault → WrappingIs
wrapping_in bytes (Ok file) =
    record { fault = fault_in file; cuts = cuts_of file; end = end_in file; cut = cut_in file; data_fork = wrapped_data file; resource_fork = resource_fork_of bytes file }
wrapping_in bytes (Err fault) = record { fault = Some fault; cuts = no_cuts; end = None; cut = None; data_fork = None; resource_fork = None }

-- what a file is wrapped in
unfoldable pub wrapping_of : List ℕ → WrappingIs
wrapping_of bytes = wrapping_in bytes (mac_file_of bytes)

-- a resource fork. One without bytes has no resources, and no error
abbrev pub resources_in : Lying → Option (Result ForkIs ResourceFault)
resources_in part = if length part.bytes == 0 then None else Some (fork_of part.bytes)

-- the table of fragments of a file, with the forks that its members are looked up in. The resource fork and the table are at
-- offsets of the file, and the data fork at one of the file that has it
pub record MemberTableIs : Type 0 where
  pub data_fork : Option Lying
  pub fork_base : ℕ
  pub fork : ForkIs
  pub table_base : ℕ
  pub fragments : TableIs

-- the bytes of a resource, without their error
abbrev pub whole : Result Lying ResourceFault → Option Lying
whole (Ok part) = Some part
whole (Err fault) = None

-- the bytes of the resource `cfrg` 0
abbrev pub table_part : ForkIs → Option Lying
table_part fork = resource_with fork 0x6366_7267 (pos 0) >>= (λ r. whole r.contents)

abbrev pub member_table_with : Option Lying → ℕ → ForkIs → ℕ → Result TableIs MemberFault → Result MemberTableIs FileError
member_table_with data_fork base fork table_base (Ok fragments) =
    Ok (record { data_fork = data_fork; fork_base = base; fork = fork; table_base = table_base; fragments = fragments })
member_table_with data_fork base fork table_base (Err fault) = Err (record { fault = Member fault; base = table_base; member = None })

-- the table of fragments, or its error; none if there is no resource `cfrg` 0
abbrev pub member_table_of : Option Lying → ℕ → ForkIs → Option (Result MemberTableIs FileError)
member_table_of data_fork base fork =
    table_part fork >>= (λ part. Some (member_table_with data_fork base fork (up_to (base + part.offset)) (table_of part.bytes)))

-- the error of a member whose container isn't there. It is at the member
abbrev pub no_container : MemberTableIs → MemberIs → FileError
no_container t m = record { fault = NoContainer; base = up_to (t.table_base + m.offset); member = Some m.member }

-- where the container of a member is: the table doesn't say, or not in the files at hand. Or it isn't there, an error. Or it
-- is at an offset of the file that has its fork, with these bytes
pub data PlaceIs : Type 0 where
  elsewhere : PlaceIs
  missing : FileError → PlaceIs
  lying : ℕ → List ℕ → PlaceIs

-- .. in the data fork. Without one, the data fork is in a file that isn't known
abbrev pub place_in_data : MemberTableIs → ℕ → Option (Result Lying MemberFault) → PlaceIs
place_in_data t offset None = elsewhere
place_in_data t offset (Some (Ok part)) = lying (up_to (offset + part.offset)) part.bytes
place_in_data t offset (Some (Err fault)) = missing (record { fault = Member fault; base = t.table_base; member = None })

abbrev pub data_place : MemberTableIs → MemberIs → Option Lying → PlaceIs
data_place t m None = elsewhere
data_place t m (Some fork) = place_in_data t fork.offset (container_in m fork.bytes)

-- .. in a resource. The error of its bytes is that of the resource
abbrev pub resource_bytes : MemberTableIs → Result Lying ResourceFault → PlaceIs
resource_bytes t (Ok part) = lying (up_to (t.fork_base + part.offset)) part.bytes
resource_bytes t (Err fault) = elsewhere

abbrev pub resource_place : MemberTableIs → MemberIs → Option ResourceIs → PlaceIs
resource_place t m None = missing (no_container t m)
resource_place t m (Some r) = resource_bytes t r.contents

abbrev pub place_by : MemberTableIs → MemberIs → Locator → PlaceIs
place_by t m locator.Memory = elsewhere
place_by t m (locator.DataFork offset len) = data_place t m t.data_fork
place_by t m (locator.Resource type id) = resource_place t m (resource_with t.fork type (cast_signed w16 (id % 2 ^ 16)))
place_by t m (locator.Other code) = elsewhere

abbrev pub place_of : MemberTableIs → MemberIs → PlaceIs
place_of t m = place_by t m (locator_of m.header)
