-- The values of what the code keeps, without places in memory.
use Rattle.std.specs.Option.{option_copied}
use Rattle.std.specs.Prelude.{option_map}
use Rattle.pef_words.specs.Refusals.{result_map}
use Rattle.mac_forks.specs.Views.{part_seen}
use Rattle.mac_resources.specs.Views.{fork_seen}
use Rattle.cfm_members.specs.Views.{member_seen, table_seen}
use Rattle.mac_rows.specs.DataFiles.{DataFileIs}
use Rattle.mac_rows.specs.Fragments.{FragmentIs}
use Rattle.mac_rows.specs.MacParts.{MemberTableIs, PlaceIs, WrappingIs, elsewhere, lying, missing}
use Rattle.mac_rows.specs.Records.{RecordIs}
use Rattle.mac_rows.specs.declared.data_file.DataFile.{DataFile}
use Rattle.mac_rows.specs.declared.fragments.Fragment.{Fragment}
use Rattle.mac_rows.specs.declared.member_table.MemberTable.{MemberTable}
use Rattle.mac_rows.specs.declared.member_table.ContainerPlace.{ContainerPlace}
use Rattle.mac_rows.specs.declared.member_table.ContainerPlace.TheVariants as place
use Rattle.mac_rows.specs.declared.record.FileRecord.{FileRecord}
use Rattle.mac_rows.specs.declared.wrapping.Wrapping.{Wrapping}

-- the other file that has the data fork
abbrev pub data_file_seen : DataFile → DataFileIs
data_file_seen f = record { path = f.path.now; bytes = f.bytes.now }

-- what a file is wrapped in
abbrev pub wrapping_seen : Wrapping → WrappingIs
wrapping_seen w = record {
  fault = w.fault;
  cuts = w.cuts;
  end = w.end;
  cut = w.cut;
  data_fork = option_map (result_map part_seen) w.data_fork;
  resource_fork = option_map (result_map part_seen) w.resource_fork;
}

-- a table of fragments, and what its members are looked up in
abbrev pub member_table_seen : MemberTable → MemberTableIs
member_table_seen t = record {
  data_fork = option_map part_seen t.data_fork;
  fork_base = t.fork_base;
  fork = fork_seen t.fork;
  table_base = t.table_base;
  fragments = table_seen t.fragments;
}

-- where a member's container is
abbrev pub place_seen : ContainerPlace → PlaceIs
place_seen place.Elsewhere = elsewhere
place_seen (place.Missing found) = missing found
place_seen (place.Lying at bytes) = lying at bytes.now

-- a member, with its place in the file and that of its container
abbrev pub fragment_seen : Fragment → FragmentIs
fragment_seen f = record { at = f.at; offset = f.offset; size = f.size; member = member_seen f.member }

-- what a file says of itself besides its forks
abbrev pub record_seen : FileRecord → RecordIs
record_seen r = record { name = option_copied r.name; finder = r.finder; dates = r.dates }
