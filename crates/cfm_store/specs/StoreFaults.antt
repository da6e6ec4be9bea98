-- The refusal of stores, its number and its name.
use Rattle.std.specs.Prelude.{ℕ, List, codes}
use Rattle.cfm_store.specs.declared.store_fault.StoreFault.{StoreFault}
use Rattle.cfm_store.specs.declared.store_fault.StoreFault.TheVariants as fault

abbrev pub fault_number : StoreFault → ℕ
fault_number fault.OutOfMemory = 99

-- the name of the refusal, which is its text
abbrev pub fault_name : StoreFault → List ℕ
fault_name fault.OutOfMemory = codes "OutOfMemory"
