-- The refusals of an input, with their numbers and names. They are this project's own.
use Rattle.std.specs.Prelude.{ℕ, List, codes}
use Rattle.pef_ports.specs.declared.input.InputFault.{InputFault}
use Rattle.pef_ports.specs.declared.input.InputFault.TheVariants.{Unreadable, TooLong, OutOfMemory}

-- the numbers
abbrev pub fault_number : InputFault → ℕ
fault_number Unreadable = 73
fault_number TooLong = 74
fault_number OutOfMemory = 99

-- the names of the refusals, which are their texts
abbrev pub fault_name : InputFault → List ℕ
fault_name Unreadable = codes "InputUnreadable"
fault_name TooLong = codes "InputTooLong"
fault_name OutOfMemory = codes "OutOfMemory"
