-- The values of views, without places in memory.
use Rattle.std.specs.Prelude.{option_map}
use Rattle.mac_forks.specs.declared.apple.AppleFile.{AppleFile}
use Rattle.mac_forks.specs.declared.mac_binary.MacBinary.{MacBinary}
use Rattle.mac_forks.specs.declared.mac_file.MacFile.{MacFile}
use Rattle.mac_forks.specs.declared.mac_file.MacFile.TheVariants as file
use Rattle.mac_forks.specs.declared.fork_bytes.ForkBytes.{ForkBytes}
use Rattle.mac_forks.specs.Apple.{AppleIs}
use Rattle.mac_forks.specs.MacBinary.{MacBinaryIs}
use Rattle.mac_forks.specs.MacFile.{MacFileIs, bare, mac_binary, apple}
use Rattle.mac_forks.specs.Parts.{Lying}

-- the part that a view shows
abbrev pub part_seen : ForkBytes → Lying
part_seen p = record { offset = p.offset; bytes = p.bytes.now }

-- the file in MacBinary that a view shows
abbrev pub mac_binary_seen : MacBinary → MacBinaryIs
mac_binary_seen m = record {
  header = m.header;
  is_first_version = m.is_first_version;
  fault = m.fault;
  name = part_seen m.name;
  data_fork = part_seen m.data_fork;
  resource_fork = part_seen m.resource_fork;
  comment = option_map part_seen m.comment;
  cuts = m.cuts;
}

-- the file in AppleSingle or AppleDouble that a view shows
abbrev pub apple_seen : AppleFile → AppleIs
apple_seen a = record { bytes = a.cut.bytes.now; header = a.header; filler = a.filler.now }

-- the file that a view shows
abbrev pub mac_file_seen : MacFile → MacFileIs
mac_file_seen (file.Bare bytes) = bare bytes.now
mac_file_seen (file.MacBinary m) = mac_binary (mac_binary_seen m)
mac_file_seen (file.Apple a) = apple (apple_seen a)
