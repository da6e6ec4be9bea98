-- The one refusal of building a table: its number, and its name, which is its text.
use Rattle.std.specs.Prelude.{ℕ, List, codes}
use Rattle.pef_hash.specs.declared.fault.HashFault.{HashFault}
use Rattle.pef_hash.specs.declared.fault.HashFault.TheVariants.{OutOfMemory}

abbrev pub fault_number : HashFault → ℕ
fault_number OutOfMemory = 99

abbrev pub fault_name : HashFault → List ℕ
fault_name OutOfMemory = codes "OutOfMemory"
