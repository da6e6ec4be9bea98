-- Ranges that stay free when the instances change, and that nothing lies across.
use Rattle.std.proofs.Common.{◌+◌, ◌≤◌, ◌<◌, ℕ, zero, suc, get_or, List, [], ◌∷◌, length, ◌⊎◌, subst, inl, inr, arith}
use Rattle.std.proofs.lemmas.Bool.Decides.{eqb_tells, leb_tells}
use Rattle.cfm_memory.specs.Instances.{Instance, with_bytes, with_instance, without}
use Rattle.cfm_memory.specs.Placement.{end_of, taken, AreClear, IsClear, IsFree}
use Rattle.cfm_memory.specs.declared.place.Reserved.{Reserved}
use Rattle.cfm_memory.proofs.Changes.{length-fitted}

-- a range that is free with a new instance is free without it
pub free_without_new : (g address end : ℕ) (xs : List Instance) (y : Instance) → IsFree g address end (with_instance xs y) → IsFree g address end xs
free_without_new g address end [] y free = tt
free_without_new g address end (x ∷ xs) y free =
    elim (leb_tells (suc x.address) y.address) [
      | inl below ↦ (let there = rw below.0 at free in (there.0, free_without_new g address end xs y there.1))
      | inr above ↦ (let there = rw above.0 at free in there.1)
    ]

-- a range that ends below the address of an instance is free with it, if it is free without it
pub free_below : (g : ℕ) (xs : List Instance) (other end address : ℕ) → end ≤ address → IsFree g other end (without xs address) → IsFree g other end xs
free_below g [] other end address less free = tt
free_below g (x ∷ xs) other end address less free =
    elim (eqb_tells x.address address) [
      | inl same ↦ (let there = rw same.0 at free in (inl (omega (arith, same.1, less)), there))
      | inr apart ↦ (let there = rw apart.0 at free in (there.0, free_below g xs other end address less there.1))
    ]

pub free_unwritten : (g address end other : ℕ) (w : List ℕ) (xs : List Instance) → IsFree g address end (with_bytes xs other w) → IsFree g address end xs
free_unwritten g address end other w [] free = tt
free_unwritten g address end other w (x ∷ xs) free =
    elim (eqb_tells x.address other) [
      | inl same ↦ (let P : ℕ → Type 0 = λ n. ((end ≤ x.address) ⊎ (x.address + taken g n ≤ address)) × IsFree g address end xs in subst P (length-fitted x.bytes w) (rw same.0 at free))
      | inr apart ↦ (let there = rw apart.0 at free in (there.0, free_unwritten g address end other w xs there.1))
    ]

-- what meets none of some ranges doesn't meet one of them
pub clear_at : (address end k : ℕ) (rs : List Reserved) (d : Reserved) → k < length rs → IsClear address end rs → (end ≤ (get_or rs k d).from) ⊎ ((get_or rs k d).to ≤ address)
clear_at address end k [] d under clear = absurd (omega arith)
clear_at address end zero (r ∷ rs) d under clear = clear.0
clear_at address end (suc k) (r ∷ rs) d under clear = clear_at address end k rs d (omega arith) clear.1

-- no instance lies across the end of a reserved range
pub between_past : (g : ℕ) (xs : List Instance) (rs : List Reserved) (k : ℕ) (d : Reserved) → k < length rs → (get_or rs k d).from < (get_or rs k d).to → AreClear g xs rs → IsFree g (get_or rs k d).to (get_or rs k d).to xs
between_past g [] rs k d under some clear = tt
between_past g (x ∷ xs) rs k d under some clear = (
  elim (clear_at x.address (end_of g x) k rs d under clear.0) as (λ _. ((get_or rs k d).to ≤ x.address) ⊎ (end_of g x ≤ (get_or rs k d).to)) [ inl h ↦ inr (omega (arith, h, some)) | inr h ↦ inl h ],
  between_past g xs rs k d under some clear.1,
)
