-- What a file says of the forks of a Macintosh file: in MacBinary, in AppleSingle or AppleDouble, or in none of these.
-- That the signatures of AppleSingle and AppleDouble come first is this project's own rule. A file in MacBinary would
-- begin with one of them only if its name had five bytes, the first two 1600 or 1607 (hexadecimal).
use Rattle.std.specs.Prelude.{ℕ, ◌==◌, List, Option, None, Some, option_map, Result, Ok, if◌then◌else◌}
use Rattle.pef_words.specs.Refusals.{result_map}
use Rattle.mac_forks.specs.declared.fault.ForkFault.{ForkFault}
use Rattle.mac_forks.specs.declared.finder.FinderInfo.{FinderInfo}
use Rattle.mac_forks.specs.declared.mac_binary.MacBinaryCuts.{MacBinaryCuts}
use Rattle.mac_forks.specs.declared.mac_file.ForkFormat.{ForkFormat}
use Rattle.mac_forks.specs.declared.mac_file.ForkFormat.TheVariants.{Bare, MacBinary1, MacBinary2, MacBinary3, AppleSingle, AppleDouble}
use Rattle.mac_forks.specs.Apple.{AppleIs, apple_of, is_apple, is_double, part_with, with_finder_information}
use Rattle.mac_forks.specs.MacBinary.{MacBinaryIs, end_of, finder_in, mac_binary_of}
use Rattle.mac_forks.specs.Parts.{Lying}

-- a file: its bytes, or what it is in one of the formats
pub data MacFileIs : Type 0 where
  bare : List ℕ → MacFileIs
  mac_binary : MacBinaryIs → MacFileIs
  apple : AppleIs → MacFileIs

-- a file that isn't in AppleSingle or AppleDouble
abbrev pub bare_or : List ℕ → Option MacBinaryIs → MacFileIs
bare_or bytes None = bare bytes
bare_or bytes (Some file) = mac_binary file

-- which of the formats some bytes have, or what is wrong with their header
unfoldable pub mac_file_of : List ℕ → Result MacFileIs ForkFault
mac_file_of bytes = if is_apple bytes then result_map apple (apple_of bytes) else Ok (bare_or bytes (mac_binary_of bytes))

-- which MacBinary a file is in
abbrev pub mac_binary_format : MacBinaryIs → ForkFormat
mac_binary_format m =
    if m.header.extension.signature == 0x6D42_494E then MacBinary3 else if m.is_first_version then MacBinary1 else MacBinary2

abbrev pub format_of : MacFileIs → ForkFormat
format_of (bare bytes) = Bare
format_of (mac_binary m) = mac_binary_format m
format_of (apple a) = if is_double a.header then AppleDouble else AppleSingle

-- the error of the file as a whole
abbrev pub fault_in : MacFileIs → Option ForkFault
fault_in (bare bytes) = None
fault_in (mac_binary m) = m.fault
fault_in (apple a) = None

-- the errors of parts of MacBinary that pass the end
abbrev pub no_cuts : MacBinaryCuts
no_cuts = record { data_fork = None; resource_fork = None; comment = None }

abbrev pub cuts_of : MacFileIs → MacBinaryCuts
cuts_of (bare bytes) = no_cuts
cuts_of (mac_binary m) = m.cuts
cuts_of (apple a) = no_cuts

-- where the parts of MacBinary end
abbrev pub end_in : MacFileIs → Option ℕ
end_in (bare bytes) = None
end_in (mac_binary m) = Some (end_of m.header)
end_in (apple a) = None

-- the forks, the name and the comment; none if the file doesn't have it
abbrev pub data_fork_in : MacFileIs → Option (Result Lying ForkFault)
data_fork_in (bare bytes) = Some (Ok (record { offset = 0; bytes = bytes }))
data_fork_in (mac_binary m) = Some (Ok m.data_fork)
data_fork_in (apple a) = part_with a 1

abbrev pub resource_fork_in : MacFileIs → Option (Result Lying ForkFault)
resource_fork_in (bare bytes) = None
resource_fork_in (mac_binary m) = Some (Ok m.resource_fork)
resource_fork_in (apple a) = part_with a 2

abbrev pub name_in : MacFileIs → Option (Result Lying ForkFault)
name_in (bare bytes) = None
name_in (mac_binary m) = Some (Ok m.name)
name_in (apple a) = part_with a 3

abbrev pub comment_in : MacFileIs → Option (Result Lying ForkFault)
comment_in (bare bytes) = None
comment_in (mac_binary m) = option_map Ok m.comment
comment_in (apple a) = part_with a 4

-- what the Finder knows of the file
abbrev pub finder_of_file : MacFileIs → Option (Result FinderInfo ForkFault)
finder_of_file (bare bytes) = None
finder_of_file (mac_binary m) = Some (Ok (finder_in m.header))
finder_of_file (apple a) = with_finder_information a
