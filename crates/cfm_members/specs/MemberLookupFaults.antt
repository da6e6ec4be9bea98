-- Why the container of a fragment isn't found, with the numbers and names of the crate that finds it. 80 is this crate's
-- own.
use Rattle.std.specs.Prelude.{ℕ, List, codes}
use Rattle.mac_forks.specs.Faults as fork
use Rattle.mac_resources.specs.Faults as resource
use Rattle.cfm_members.specs.Faults.{fault_name, fault_number}
use Rattle.cfm_members.specs.declared.member_lookup_fault.MemberLookupFault.{MemberLookupFault}
use Rattle.cfm_members.specs.declared.member_lookup_fault.MemberLookupFault.TheVariants.{Fork, Resource, Member, NoContainer}

-- the numbers
abbrev pub member_lookup_fault_number : MemberLookupFault → ℕ
member_lookup_fault_number (Fork fault) = fork.fault_number fault
member_lookup_fault_number (Resource fault) = resource.fault_number fault
member_lookup_fault_number (Member fault) = fault_number fault
member_lookup_fault_number NoContainer = 80

-- the names, which are the texts
abbrev pub member_lookup_fault_name : MemberLookupFault → List ℕ
member_lookup_fault_name (Fork fault) = fork.fault_name fault
member_lookup_fault_name (Resource fault) = resource.fault_name fault
member_lookup_fault_name (Member fault) = fault_name fault
member_lookup_fault_name NoContainer = codes "NoContainer"
