-- The bytes at an address after each change of the instances.
use Rattle.std.proofs.Common.{◌≡◌, ◌≢◌, ℕ, suc, ◌<◌, ◌==◌, cond, List, [], ◌∷◌, Some, None, length, drop, eq-eqb, refl, sym, ap, inl, inr, arith, ◌∙◌}
use Rattle.std.proofs.Math.Seq.{take-append_seam}
use Rattle.std.proofs.lemmas.Bool.Decides.{eqb_tells, leb_tells}
use Rattle.cfm_memory.specs.Instances.{Instance, bytes_at, with_instance, without, fitted, with_bytes}
use Rattle.cfm_memory.specs.Placement.{end_of, IsFree, IsLaidOut}
use Rattle.cfm_memory.proofs.Placing.{some_taken}

-- no instance begins in a free range
pub nothing_at_free : (g : ℕ) (xs : List Instance) (address end : ℕ) → address < end → IsFree g address end xs → bytes_at xs address ≡ None
nothing_at_free g [] address end some free = refl
nothing_at_free g (x ∷ xs) address end some free =
    let some_x = some_taken g (length x.bytes) in
    elim (eqb_tells x.address address) [
      | inl same ↦ absurd (elim (free.0) as (λ _. ⊥) [ inl h ↦ omega (arith, same.1) | inr h ↦ omega (arith, same.1) ])
      | inr other ↦ rw other.0 (nothing_at_free g xs address end some free.1)
    ]

-- if instances begin after an address, none begins there
pub nothing_before : (g : ℕ) (xs : List Instance) (address from limit : ℕ) → address < from → IsLaidOut g from limit xs → bytes_at xs address ≡ None
nothing_before g [] address from limit less laid = refl
nothing_before g (x ∷ xs) address from limit less laid =
    elim (eqb_tells x.address address) [
      | inl same ↦ absurd (omega (arith, same.1))
      | inr other ↦ rw other.0 (nothing_before g xs address (end_of g x) limit (omega arith) laid.2)
    ]

-- a number is equal to itself
at_itself : {A : Type 0} (n : ℕ) (a b : A) → cond (n == n) a b ≡ a
at_itself n a b = rw (eq-eqb n n refl) refl

-- a new instance has its bytes
pub placed_here : (xs : List Instance) (y : Instance) → bytes_at (with_instance xs y) y.address ≡ Some y.bytes
placed_here [] y = at_itself y.address (Some y.bytes) None
placed_here (x ∷ xs) y =
    elim (leb_tells (suc x.address) y.address) [
      | inl below ↦ rw below.0 (elim (eqb_tells x.address y.address) [ inl same ↦ absurd (omega (arith, same.1, below.1)) | inr other ↦ rw other.0 (placed_here xs y) ])
      | inr above ↦ rw above.0 (at_itself y.address (Some y.bytes) (bytes_at (x ∷ xs) y.address))
    ]

-- and all others keep theirs
pub placed_other : (xs : List Instance) (y : Instance) (address : ℕ) → y.address ≢ address → bytes_at (with_instance xs y) address ≡ bytes_at xs address
placed_other [] y address apart =
    elim (eqb_tells y.address address) [ inl same ↦ absurd (apart same.1) | inr other ↦ rw other.0 refl ]
placed_other (x ∷ xs) y address apart =
    elim (leb_tells (suc x.address) y.address) [
      | inl below ↦ rw below.0 (ap (λ r. cond (x.address == address) (Some x.bytes) r) (placed_other xs y address apart))
      | inr above ↦ rw above.0 (elim (eqb_tells y.address address) [ inl same ↦ absurd (apart same.1) | inr other ↦ rw other.0 refl ])
    ]

-- and all others keep their bytes
pub given_back_other : (xs : List Instance) (gone address : ℕ) → gone ≢ address → bytes_at (without xs gone) address ≡ bytes_at xs address
given_back_other [] gone address apart = refl
given_back_other (x ∷ xs) gone address apart =
    elim (eqb_tells x.address gone) [
      | inl same ↦ (let e : x.address ≢ address = λ h. apart (sym same.1 ∙ h) in rw same.0 (elim (eqb_tells x.address address) [ inl here ↦ absurd (e here.1) | inr there ↦ rw there.0 refl ]))
      | inr other ↦ rw other.0 (ap (λ r. cond (x.address == address) (Some x.bytes) r) (given_back_other xs gone address apart))
    ]

-- an instance that was written to has the written bytes, at its length
pub written_here : (xs : List Instance) (address : ℕ) (w bytes : List ℕ) → bytes_at xs address ≡ Some bytes → bytes_at (with_bytes xs address w) address ≡ Some (fitted bytes w)
written_here [] address w bytes is = absurd (cc)
written_here (x ∷ xs) address w bytes is =
    elim (eqb_tells x.address address) [
      | inl same ↦ (let here : Some x.bytes ≡ Some bytes = rw same.0 at is in let e : x.bytes ≡ bytes = cc in rw same.0 (rw same.0 (ap (λ b. Some (fitted b w)) e)))
      | inr other ↦ (let there : bytes_at xs address ≡ Some bytes = rw other.0 at is in rw other.0 (rw other.0 (written_here xs address w bytes there)))
    ]

-- and all others keep theirs
pub written_other : (xs : List Instance) (written address : ℕ) (w : List ℕ) → written ≢ address → bytes_at (with_bytes xs written w) address ≡ bytes_at xs address
written_other [] written address w apart = refl
written_other (x ∷ xs) written address w apart =
    elim (eqb_tells x.address written) [
      | inl same ↦ (let e : x.address ≢ address = λ h. apart (sym same.1 ∙ h) in rw same.0 (elim (eqb_tells x.address address) [ inl here ↦ absurd (e here.1) | inr there ↦ rw there.0 refl ]))
      | inr other ↦ rw other.0 (ap (λ r. cond (x.address == address) (Some x.bytes) r) (written_other xs written address w apart))
    ]

-- bytes written with an instance's length are unchanged
pub fitted_same : (xs w : List ℕ) → length w ≡ length xs → fitted xs w ≡ w
fitted_same xs w same = rw (← same) (take-append_seam w (drop (length w) xs))
