-- Why fragments aren't prepared, by number, name and place. The refusals of raw bytes and of programs are those of
-- the crates that find them.
use Rattle.std.specs.Prelude.{ℕ, List, Option, None, Some, codes}
use Rattle.pef_format.specs.declared.place.Place.{Place}
use Rattle.pef_pidata.specs.Faults as pack
use Rattle.pef_reloc.specs.Faults as reloc
use Rattle.cfm_prepare.specs.declared.fragment_fault.FragmentFault.{FragmentFault}
use Rattle.cfm_prepare.specs.declared.fragment_fault.FragmentFault.TheVariants as fault

-- the numbers
abbrev pub fault_number : FragmentFault → ℕ
fault_number (fault.NoRoom f place) = 67
fault_number (fault.Pack f k place) = pack.fault_number k
fault_number (fault.Reloc f k section place) = reloc.fault_number k
fault_number fault.OutOfMemory = 99

-- the names of the refusals, which are their texts
abbrev pub fault_name : FragmentFault → List ℕ
fault_name (fault.NoRoom f place) = codes "NoRoom"
fault_name (fault.Pack f k place) = pack.fault_name k
fault_name (fault.Reloc f k section place) = reloc.fault_name k
fault_name fault.OutOfMemory = codes "OutOfMemory"

-- the places in the container of the fragment that is refused
abbrev pub fault_place : FragmentFault → Option Place
fault_place (fault.NoRoom f place) = Some place
fault_place (fault.Pack f k place) = Some place
fault_place (fault.Reloc f k section place) = Some place
fault_place fault.OutOfMemory = None
