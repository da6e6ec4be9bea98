-- The bytes of a container that a member has in the data fork, for the proofs of this crate.
use Rattle.std.specs.Prelude.{ℕ, List, Option, None, Some, Result, Ok, Err}
use Rattle.mac_forks.specs.Parts.{Lying}
use Rattle.cfm_members.specs.declared.fault.MemberFault.{MemberFault}
use Rattle.cfm_members.specs.declared.member_lookup_fault.MemberLookupFault.{MemberLookupFault}
use Rattle.cfm_members.specs.declared.member_lookup_fault.MemberLookupFault.TheVariants.{Member, NoContainer}

abbrev pub part_bytes : Option (Result Lying MemberFault) → Result (List ℕ) MemberLookupFault
part_bytes None = Err NoContainer
part_bytes (Some (Ok part)) = Ok part.bytes
part_bytes (Some (Err fault)) = Err (Member fault)
