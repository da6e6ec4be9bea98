-- Numbers and names of errors belong together (docs/ERRORS.md).
use Rattle.std.specs.Prelude.{◌≡◌, Some}
use Rattle.pef_refusals.specs.Names.{name_of}
use Rattle.pef_faults.specs.Faults.{fault_name, fault_number}
use Rattle.pef_faults.specs.declared.fault.Fault.{Fault}

-- the number of each error has its name in the table of names. So errors with different names have different numbers
pub record AreNumbered : Type 0 where
  pub named : (f : Fault) → name_of (fault_number f) ≡ Some (fault_name f)
  pub own : (f g : Fault) → fault_number f ≡ fault_number g → fault_name f ≡ fault_name g
