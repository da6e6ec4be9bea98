-- The forks of a file.
use Rattle.std.specs.Prelude.{ℕ, List, Option, None, Result, if◌then◌else◌}
use Rattle.mac_forks.specs.MacFile.{MacFileIs, bare, mac_binary, apple, data_fork_in, resource_fork_in}
use Rattle.mac_forks.specs.Parts.{Lying}
use Rattle.mac_forks.specs.declared.fault.ForkFault.{ForkFault}
use Rattle.mac_resources.specs.Fork.{has_form}

-- the forks of a file. One in none of the formats is a resource fork if it has the form of one, else a data fork
abbrev pub data_fork_of : List ℕ → MacFileIs → Option (Result Lying ForkFault)
data_fork_of bytes (bare all) = if has_form bytes then None else data_fork_in (bare all)
data_fork_of bytes (mac_binary m) = data_fork_in (mac_binary m)
data_fork_of bytes (apple a) = data_fork_in (apple a)

abbrev pub resource_fork_of : List ℕ → MacFileIs → Option (Result Lying ForkFault)
resource_fork_of bytes (bare all) = if has_form bytes then data_fork_in (bare all) else None
resource_fork_of bytes (mac_binary m) = resource_fork_in (mac_binary m)
resource_fork_of bytes (apple a) = resource_fork_in (apple a)
