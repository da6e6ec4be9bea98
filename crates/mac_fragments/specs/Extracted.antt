-- What a file's fragments are beside what is extracted from it by a name or a number.
use Rattle.std.specs.Prelude.{◌≡◌, ⊤, ℕ, Bool, false, List, [], ◌∷◌, Option, None, Some, option_map, Result, Ok, Err, if◌then◌else◌}
use Rattle.std.specs.Option.{option_map_or}
use Rattle.std.specs.Str.{bytes_eq}
use Rattle.cfm_members.specs.Fragments.{container_numbered}
use Rattle.cfm_members.specs.declared.member_lookup_fault.MemberLookupFault.{MemberLookupFault}
use Rattle.cfm_members.specs.declared.member_lookup_fault.MemberLookupFault.TheVariants.{NoContainer}
use Rattle.mac_fragments.specs.Fragments.{FragmentIs, own_bytes_of}

-- the first fragment with a name
abbrev pub goes_by : List ℕ → FragmentIs → Bool
goes_by name f = option_map_or (λ own. bytes_eq own name) f.name false

abbrev pub first_by : List ℕ → List FragmentIs → Option FragmentIs
first_by name [] = None
first_by name (f ∷ fs) = if goes_by name f then Some f else first_by name fs

-- what is found by a name in a file's table is the first fragment with the name. If nothing is found, nothing is said. There is no
-- other error
abbrev pub IsFirst : Result (List ℕ) MemberLookupFault → Option FragmentIs → Type 0
IsFirst (Ok bytes) first = option_map (λ f. f.bytes) first ≡ Some bytes
IsFirst (Err NoContainer) first = ⊤
IsFirst (Err fault) first = ⊥

-- the container with a number, without the bytes after it
abbrev pub numbered : List ℕ → ℕ → Option (List ℕ)
numbered bytes n = option_map own_bytes_of (container_numbered bytes n)
