-- What a file is: one of the formats of this crate and of those below, in an order of this project's own.
use Rattle.std.specs.Prelude.{ℕ, List, Result, Ok, Err, if◌then◌else◌}
use Rattle.mac_forks.specs.declared.fault.ForkFault.{ForkFault}
use Rattle.mac_forks.specs.declared.mac_file.ForkFormat.{ForkFormat}
use Rattle.mac_forks.specs.declared.mac_file.ForkFormat.TheVariants as format
use Rattle.mac_forks.specs.MacFile.{MacFileIs, format_of, mac_file_of}
use Rattle.mac_resources.specs.Fork.{has_form}
use Rattle.cfm_members.specs.declared.file_kind.FileKind.{FileKind}
use Rattle.cfm_members.specs.declared.file_kind.FileKind.TheVariants.{Container, MacBinary, AppleSingle, AppleDouble, DamagedApple, ResourceFork, Other}
use Rattle.cfm_members.specs.Search.{begins_container}

-- the kind of a file with a format
abbrev pub format_kind : List ℕ → ForkFormat → FileKind
format_kind bytes format.Bare = if has_form bytes then ResourceFork else Other
format_kind bytes format.MacBinary1 = MacBinary
format_kind bytes format.MacBinary2 = MacBinary
format_kind bytes format.MacBinary3 = MacBinary
format_kind bytes format.AppleSingle = AppleSingle
format_kind bytes format.AppleDouble = AppleDouble

abbrev pub wrapped_kind : List ℕ → Result MacFileIs ForkFault → FileKind
wrapped_kind bytes (Ok file) = format_kind bytes (format_of file)
wrapped_kind bytes (Err fault) = DamagedApple

-- what some bytes are
abbrev pub kind_of : List ℕ → FileKind
kind_of bytes = if begins_container bytes then Container else wrapped_kind bytes (mac_file_of bytes)
