-- The refusals of contexts, with their numbers, names and places. Those of closures and of fragments are those of the
-- crates that find them.
use Rattle.std.specs.Prelude.{ℕ, List, Option, None, codes}
use Rattle.pef_format.specs.declared.place.Place.{Place}
use Rattle.cfm_closure.specs.Faults as bind
use Rattle.cfm_prepare.specs.FragmentFaults as fragment
use Rattle.cfm_prepare.specs.declared.add_fault.AddFault.{AddFault}
use Rattle.cfm_prepare.specs.declared.add_fault.AddFault.TheVariants as add
use Rattle.cfm_prepare.specs.declared.fault.CloseFault.{CloseFault}
use Rattle.cfm_prepare.specs.declared.fault.CloseFault.TheVariants.{BadConnection}
use Rattle.cfm_prepare.specs.declared.fault.PrepareFault.{PrepareFault}
use Rattle.cfm_prepare.specs.declared.fault.PrepareFault.TheVariants as fault
use Rattle.cfm_prepare.specs.declared.place_fault.PlaceFault.{PlaceFault}
use Rattle.cfm_prepare.specs.declared.place_fault.PlaceFault.TheVariants as place
use Rattle.cfm_prepare.specs.declared.remove_fault.RemoveFault.{RemoveFault}
use Rattle.cfm_prepare.specs.declared.remove_fault.RemoveFault.TheVariants as remove

-- the numbers
abbrev pub fault_number : PrepareFault → ℕ
fault_number fault.TooManyConnections = 69
fault_number fault.RootMissing = 60
fault_number (fault.Bind f) = bind.fault_number f
fault_number (fault.TooManyBytes f) = 75
fault_number (fault.TooManyStepsInAll f) = 70
fault_number (fault.Fragment f) = fragment.fault_number f
fault_number fault.OutOfMemory = 99

-- the names of the refusals, which are their texts
abbrev pub fault_name : PrepareFault → List ℕ
fault_name fault.TooManyConnections = codes "TooManyConnections"
fault_name fault.RootMissing = codes "RootMissing"
fault_name (fault.Bind f) = bind.fault_name f
fault_name (fault.TooManyBytes f) = codes "TooManyBytes"
fault_name (fault.TooManyStepsInAll f) = codes "TooManyStepsInAll"
fault_name (fault.Fragment f) = fragment.fault_name f
fault_name fault.OutOfMemory = codes "OutOfMemory"

-- the places in a fragment's container
abbrev pub fault_place : PrepareFault → Option Place
fault_place fault.TooManyConnections = None
fault_place fault.RootMissing = None
fault_place (fault.Bind f) = bind.fault_place f
fault_place (fault.TooManyBytes f) = None
fault_place (fault.TooManyStepsInAll f) = None
fault_place (fault.Fragment f) = fragment.fault_place f
fault_place fault.OutOfMemory = None

abbrev pub close_fault_number : CloseFault → ℕ
close_fault_number BadConnection = 68

abbrev pub close_fault_name : CloseFault → List ℕ
close_fault_name BadConnection = codes "BadConnection"

-- for a fragment that isn't added. Only a library has such calls, so two of the numbers are from 200 on
abbrev pub add_fault_number : AddFault → ℕ
add_fault_number add.AddedTooLate = 203
add_fault_number add.StoreFull = 204
add_fault_number add.OutOfMemory = 99

-- for a fragment that isn't removed
abbrev pub remove_fault_number : RemoveFault → ℕ
remove_fault_number remove.RootMissing = 60
remove_fault_number remove.StillPresent = 207
remove_fault_number remove.StillNamed = 208
remove_fault_number remove.OutOfMemory = 99

abbrev pub remove_fault_name : RemoveFault → List ℕ
remove_fault_name remove.RootMissing = codes "RootMissing"
remove_fault_name remove.StillPresent = codes "StillPresent"
remove_fault_name remove.StillNamed = codes "StillNamed"
remove_fault_name remove.OutOfMemory = codes "OutOfMemory"

abbrev pub add_fault_name : AddFault → List ℕ
add_fault_name add.AddedTooLate = codes "AddedTooLate"
add_fault_name add.StoreFull = codes "StoreFull"
add_fault_name add.OutOfMemory = codes "OutOfMemory"

-- for a fragment that isn't prepared at some addresses. Only a library has this call, so one number is from 200 on
abbrev pub place_fault_number : PlaceFault → ℕ
place_fault_number place.WrongAddressCount = 210
place_fault_number (place.Prepare f) = fault_number f

abbrev pub place_fault_name : PlaceFault → List ℕ
place_fault_name place.WrongAddressCount = codes "WrongAddressCount"
place_fault_name (place.Prepare f) = fault_name f

abbrev pub place_fault_place : PlaceFault → Option Place
place_fault_place place.WrongAddressCount = None
place_fault_place (place.Prepare f) = fault_place f
