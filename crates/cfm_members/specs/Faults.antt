-- The errors of a table of fragments, with their numbers, names and places. They are this project's own.
use Rattle.std.specs.Prelude.{ℕ, List, codes}
use Rattle.cfm_members.specs.declared.fault.MemberFault.{MemberFault}
use Rattle.cfm_members.specs.declared.fault.MemberFault.TheVariants.{FragmentTableCut, BadFragmentTable, MemberCut, MemberNameCut, FragmentOutside}

-- the numbers
abbrev pub fault_number : MemberFault → ℕ
fault_number FragmentTableCut = 94
fault_number BadFragmentTable = 95
fault_number (MemberCut member offset) = 96
fault_number (MemberNameCut member offset) = 97
fault_number (FragmentOutside member offset) = 98

-- the names, which are the texts
abbrev pub fault_name : MemberFault → List ℕ
fault_name FragmentTableCut = codes "FragmentTableCut"
fault_name BadFragmentTable = codes "BadFragmentTable"
fault_name (MemberCut member offset) = codes "MemberCut"
fault_name (MemberNameCut member offset) = codes "MemberNameCut"
fault_name (FragmentOutside member offset) = codes "FragmentOutside"

-- the offset in the table of the field that an error is about: memberCount, version, or a field of a member
abbrev pub fault_offset : MemberFault → ℕ
fault_offset FragmentTableCut = 30
fault_offset BadFragmentTable = 10
fault_offset (MemberCut member offset) = offset
fault_offset (MemberNameCut member offset) = offset
fault_offset (FragmentOutside member offset) = offset
