-- The meaning of a kind of error of `clap`.
use Rattle.clap.specs.declared.error.kind.ErrorKind.{ErrorKind}
use Rattle.clap.specs.declared.error.kind.ErrorKind.TheVariants as kind
use Rattle.pef_request.specs.declared.command_line.WordsFault.{WordsFault}
use Rattle.pef_request.specs.declared.command_line.WordsFault.TheVariants.{Usage, OutOfMemory}

-- why a line was refused
abbrev pub fault_of_kind : ErrorKind → WordsFault
fault_of_kind kind.OutOfMemory = OutOfMemory
fault_of_kind _ = Usage
