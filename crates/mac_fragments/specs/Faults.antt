-- When a call that lists fragments may have a result.
use Rattle.std.specs.Prelude.{◌≡◌, ⊤, List, Result, Ok, Err}
use Rattle.cfm_members.specs.declared.member_lookup_fault.MemberLookupFault.{MemberLookupFault}
use Rattle.mac_fragments.specs.declared.fault.FragmentsFault.{FragmentsFault}
use Rattle.mac_fragments.specs.declared.fault.FragmentsFault.TheVariants.{Lookup, OutOfMemory}
use Rattle.mac_fragments.specs.Fragments.{FragmentIs}

-- an error is the expected one, unless an allocation failed
abbrev pub FailsAs : FragmentsFault → Result (List FragmentIs) MemberLookupFault → Type 0
FailsAs (Lookup fault) expected = expected ≡ Err fault
FailsAs OutOfMemory expected = ⊤

-- the fragments are the expected ones, or the error is
abbrev pub Gives : Result (List FragmentIs) FragmentsFault → Result (List FragmentIs) MemberLookupFault → Type 0
Gives (Ok fragments) expected = expected ≡ Ok fragments
Gives (Err fault) expected = FailsAs fault expected
