-- The values of fragments, without places in memory.
use Rattle.std.specs.Prelude.{List, map, option_map}
use Rattle.std.specs.Option.{option_copied}
use Rattle.std.specs.declared.alloc.Global.{Global}
use Rattle.std.specs.declared.vec.Vec.{Vec}
use Rattle.pef_words.specs.Refusals.{result_map}
use Rattle.mac_forks.specs.Views.{part_seen}
use Rattle.mac_resources.specs.Views.{fork_seen}
use Rattle.mac_fragments.specs.declared.fragment.FileFragment.{FileFragment}
use Rattle.mac_fragments.specs.declared.members.MemberForks.{MemberForks}
use Rattle.mac_fragments.specs.Fragments.{FragmentIs, MemberForksAre}

abbrev pub fragment_seen : FileFragment → FragmentIs
fragment_seen f = record { name = option_copied f.name; usage = f.usage; bytes = f.bytes.now }

abbrev pub fragments_seen : Vec FileFragment Global → List FragmentIs
fragments_seen fs = map fragment_seen fs.items

abbrev pub forks_seen : MemberForks → MemberForksAre
forks_seen forks = record { data_fork = option_map (result_map part_seen) forks.data_fork; resources = fork_seen forks.resources }
