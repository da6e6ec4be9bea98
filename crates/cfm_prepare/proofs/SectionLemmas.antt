-- An instance at a place ends below the limit of memory.
use Rattle.std.proofs.Common.{◌≡◌, ℕ, ◌+◌, ◌≤◌, List, [], ◌∷◌, Some, length, cond, sym, ap, ◌∙◌, inl, inr, arith}
use Rattle.std.proofs.lemmas.Bool.Decides.{eqb_tells}
use Rattle.cfm_memory.specs.Instances.{Instance, bytes_at}
use Rattle.cfm_memory.specs.Placement.{IsLaidOut, end_of}
use Rattle.cfm_memory.proofs.Laws.{within_taken}
use Rattle.std.proofs.lemmas.Option.{same_Some}

ends-below : (g : ℕ) (x : Instance) (bytes : List ℕ) (limit : ℕ) → Some x.bytes ≡ Some bytes → end_of g x ≤ limit → x.address + length bytes ≤ limit
ends-below g x bytes limit found below =
    let len : length x.bytes ≡ length bytes = ap length (same_Some x.bytes bytes found) in
    omega (arith, len, within_taken g (length x.bytes), below)

-- an instance of a memory ends below its limit
pub laid-below : (g from limit : ℕ) (xs : List Instance) (address : ℕ) (bytes : List ℕ) → IsLaidOut g from limit xs → bytes_at xs address ≡ Some bytes → address + length bytes ≤ limit
laid-below g from limit [] address bytes laid is = absurd (cc)
laid-below g from limit (x ∷ xs) address bytes laid is = elim (eqb_tells x.address address) [
  | inl same ↦ omega (arith, same.1, ends-below g x bytes limit (ap (λ b. cond b (Some x.bytes) (bytes_at xs address)) (sym same.0) ∙ is) laid.1)
  | inr other ↦ laid-below g (end_of g x) limit xs address bytes laid.2 (ap (λ b. cond b (Some x.bytes) (bytes_at xs address)) (sym other.0) ∙ is)
]
