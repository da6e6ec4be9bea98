-- The refusals of packed data, their numbers, their names and their places. They are this project's own.
use Rattle.std.specs.Prelude.{ℕ, List, Option, Some, None, codes}
use Rattle.pef_pidata.specs.declared.fault.PackFault.{PackFault}
use Rattle.pef_pidata.specs.declared.fault.PackFault.TheVariants.{Truncated, BadOpcode, CountTooLarge, TooLong, TooShort, OutOfMemory}

-- the numbers
abbrev pub fault_number : PackFault → ℕ
fault_number (Truncated at) = 21
fault_number (BadOpcode at) = 22
fault_number (CountTooLarge at) = 23
fault_number (TooLong at) = 24
fault_number (TooShort at) = 25
fault_number OutOfMemory = 99

-- the names of the refusals, which are their texts
abbrev pub fault_name : PackFault → List ℕ
fault_name (Truncated at) = codes "Truncated"
fault_name (BadOpcode at) = codes "BadOpcode"
fault_name (CountTooLarge at) = codes "CountTooLarge"
fault_name (TooLong at) = codes "TooLong"
fault_name (TooShort at) = codes "TooShort"
fault_name OutOfMemory = codes "OutOfMemory"

-- the offset in the packed bytes of the instruction that has the fault, or their length if no instruction is left
abbrev pub fault_offset : PackFault → Option ℕ
fault_offset (Truncated at) = Some at
fault_offset (BadOpcode at) = Some at
fault_offset (CountTooLarge at) = Some at
fault_offset (TooLong at) = Some at
fault_offset (TooShort at) = Some at
fault_offset OutOfMemory = None
