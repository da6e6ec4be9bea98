-- The range at an address inside an instance.
use Rattle.std.proofs.Common.{◌≡◌, ℕ, ◌≤◌, List, Some, inl, inr}
use Rattle.std.proofs.lemmas.Bool.{cases_lt}
use Rattle.cfm_memory.specs.Instances.{Instance, bytes_at}
use Rattle.cfm_memory.specs.Placement.{IsLaidOut}
use Rattle.cfm_memory.proofs.Contents.{nothing_before}

-- an instance among those from an address on begins there or after it
pub begins_after : (g : ℕ) (xs : List Instance) (address from limit : ℕ) (bytes : List ℕ) → IsLaidOut g from limit xs → bytes_at xs address ≡ Some bytes → from ≤ address
begins_after g xs address from limit bytes laid is =
    elim (cases_lt address from) [
      | inl less ↦ (let none = nothing_before g xs address from limit less laid in absurd (cc))
      | inr le ↦ le
    ]
