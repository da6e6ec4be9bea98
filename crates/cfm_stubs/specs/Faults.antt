-- The names of faults of stubs.
use Rattle.std.specs.Prelude.{ℕ, List, codes}
use Rattle.cfm_stubs.specs.declared.fault.StubFault.{StubFault}
use Rattle.cfm_stubs.specs.declared.fault.StubFault.TheVariants as fault

abbrev pub fault_name : StubFault → List ℕ
fault_name fault.TooManySymbols = codes "TooManySymbols"
fault_name fault.LongName = codes "LongName"
fault_name fault.TooManyNameBytes = codes "TooManyNameBytes"
fault_name fault.PastLastNumber = codes "PastLastNumber"
fault_name fault.UnspellableName = codes "UnspellableName"
fault_name fault.TooManyBytes = codes "TooManyBytes"
fault_name fault.OutOfMemory = codes "OutOfMemory"
