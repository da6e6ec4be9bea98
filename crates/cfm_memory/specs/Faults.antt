-- The refusals of placement, their numbers and their names. They are this project's own.
use Rattle.std.specs.Prelude.{ℕ, List, codes}
use Rattle.cfm_memory.specs.declared.granule.GranuleFault.{GranuleFault}
use Rattle.cfm_memory.specs.declared.granule.GranuleFault.TheVariants.{BadGranule}
use Rattle.cfm_memory.specs.declared.place.MemoryFault.{MemoryFault}
use Rattle.cfm_memory.specs.declared.place.MemoryFault.TheVariants.{NoRoom, OutOfMemory}

-- the numbers
abbrev pub fault_number : MemoryFault → ℕ
fault_number NoRoom = 67
fault_number OutOfMemory = 99

-- the names of the refusals, which are their texts
abbrev pub fault_name : MemoryFault → List ℕ
fault_name NoRoom = codes "NoRoom"
fault_name OutOfMemory = codes "OutOfMemory"

-- for a number that is no granule. Only a library has options, so this number is from 200 on
abbrev pub granule_fault_number : GranuleFault → ℕ
granule_fault_number BadGranule = 205

abbrev pub granule_fault_name : GranuleFault → List ℕ
granule_fault_name BadGranule = codes "BadGranule"
