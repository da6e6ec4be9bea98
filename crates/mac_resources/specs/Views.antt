-- The values of views, without places in memory.
use Rattle.std.specs.Prelude.{List, ℕ, ◌-◌, ◌++◌, Result, option_map}
use Rattle.std.specs.Borrow.{Bor}
use Rattle.pef_words.specs.Refusals.{result_map}
use Rattle.mac_forks.specs.Views.{part_seen}
use Rattle.mac_resources.specs.declared.fault.ResourceFault.{ResourceFault}
use Rattle.mac_resources.specs.declared.fork.ResourceFork.{ResourceFork}
use Rattle.mac_resources.specs.declared.resource.Resource.{Resource}
use Rattle.mac_resources.specs.declared.resources.Resources.{Resources}
use Rattle.mac_resources.specs.Fork.{ForkIs}
use Rattle.mac_resources.specs.References.{list_count}
use Rattle.mac_resources.specs.Resources.{ResourceIs, lists_of, rows_of}

-- the fork that a view shows
abbrev pub fork_seen : ResourceFork → ForkIs
fork_seen f = record {
  bytes = f.cut.bytes.now;
  header = f.header;
  map = f.map.bytes.now;
  fields = f.fields;
  area = f.area.bytes.now;
  type_count = f.type_count;
}

-- the name that a view shows, or its error
abbrev pub name_seen : Result (Bor (List ℕ)) ResourceFault → Result (List ℕ) ResourceFault
name_seen name = result_map (λ b. b.now) name

-- the resource that a view shows
abbrev pub resource_seen : Resource → ResourceIs
resource_seen r = record {
  type_code = r.type_code;
  type_row = r.type_row;
  row = r.row;
  reference = r.reference;
  name = option_map name_seen r.name;
  contents = result_map part_seen r.contents;
}

abbrev pub row_seen : Result Resource ResourceFault → Result ResourceIs ResourceFault
row_seen row = result_map resource_seen row

-- the resources that an iterator has before it: those of its list, and those of the types after it
abbrev pub left : Resources → List (Result ResourceIs ResourceFault)
left w = rows_of (fork_seen w.fork) w.list w.row (list_count w.list.kind - w.row)
    ++ lists_of (fork_seen w.fork) w.type_row (w.fork.type_count - w.type_row) w.budget
