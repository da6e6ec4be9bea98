-- How much memory is enough for some extents.
use Rattle.std.proofs.Common.{◌≡◌, refl, subst, sym, ℕ, ◌+◌, ◌*◌, ◌/◌, ◌<◌, ◌≤◌, ◌^◌, Bool, true, false, List, [], ◌∷◌, cond, ltb, inl, inr, length, replicate, arith}
use Rattle.std.proofs.Math.Nat.{div-add-mod, le-max_left, mod-lt, mul-mod_right}
use Rattle.std.proofs.lemmas.List.{length-replicate}
use Rattle.cfm_memory.specs.Extents.{Extent, LackRoom, no_instances}
use Rattle.cfm_memory.specs.Instances.{Instance, Layout, with_instance}
use Rattle.cfm_memory.specs.Limits.{first_address, grain}
use Rattle.cfm_memory.specs.Placement.{IsClear, IsFree, IsRoom, end_of, step_of, taken, with_new}
use Rattle.cfm_memory.proofs.Placing.{taken_most}

-- the most that some extents take: for each its size, the bytes that it is rounded up by, and those left
-- free before it
abbrev pub most_taken : ℕ → List Extent → ℕ
most_taken g [] = 0
most_taken g (e ∷ extents) = e.size + g + step_of g e.alignment + most_taken g extents

-- all instances end before an address
abbrev EndBy : ℕ → ℕ → List Instance → Type 0
EndBy g from [] = Unit {0}
EndBy g from (x ∷ xs) = (end_of g x ≤ from) × EndBy g from xs

ends_later : (g from to : ℕ) (xs : List Instance) → from ≤ to → EndBy g from xs → EndBy g to xs
ends_later g from to [] up ends = tt
ends_later g from to (x ∷ xs) up ends = (omega (arith, up, ends.0), ends_later g from to xs up ends.1)

ends_with : (g from : ℕ) (xs : List Instance) (y : Instance) → end_of g y ≤ from → EndBy g from xs → EndBy g from (with_instance xs y)
ends_with g from [] y end ends = (end, tt)
ends_with g from (x ∷ xs) y end ends = go (ends_with g from xs y end ends.1) (ltb x.address y.address)
  where
    go : EndBy g from (with_instance xs y) → (b : Bool) → EndBy g from (cond b (x ∷ with_instance xs y) (y ∷ x ∷ xs))
    go later true = (ends.0, later)
    go later false = (end, ends)

-- after all instances everything is free
free_after : (g address end from : ℕ) (xs : List Instance) → from ≤ address → EndBy g from xs → IsFree g address end xs
free_after g address end from [] low ends = tt
free_after g address end from (x ∷ xs) low ends = (inr (omega (arith, low, ends.0)), free_after g address end from xs low ends.1)

-- the next multiple of a step after an address
abbrev next_step : ℕ → ℕ → ℕ
next_step step from = step * (from / step + 1)

next_near : (step from : ℕ) → 0 < step → (from ≤ next_step step from) × (next_step step from ≤ from + step)
next_near step from some = (omega (arith, div-add-mod from step, mod-lt from some), omega (arith, div-add-mod from step, mod-lt from some))

some_step : (g alignment : ℕ) → g ≤ step_of g alignment
unfolding step_of
some_step g alignment = le-max_left g (2 ^ alignment)

-- after all instances an extent has room
room_after : (m : Layout) (e : Extent) (from : ℕ) → 0 < m.granule → first_address ≤ from → from + (e.size + m.granule + step_of m.granule e.alignment) ≤ m.limit → EndBy m.granule from m.instances → m.reserved ≡ [] → IsRoom m e.size e.alignment (next_step (step_of m.granule e.alignment) from)
room_after m e from some low limit ends none =
    let near = next_near (step_of m.granule e.alignment) from (omega (arith, some, some_step m.granule e.alignment)) in
    record {
      from = omega (arith, low, near.0);
      aligned = mul-mod_right (step_of m.granule e.alignment) (from / step_of m.granule e.alignment + 1);
      inside = omega (arith, near.1, taken_most m.granule e.size some, limit);
      free = free_after m.granule _ _ from m.instances near.0 ends;
      clear = subst (IsClear (next_step (step_of m.granule e.alignment) from) (next_step (step_of m.granule e.alignment) from + taken m.granule e.size)) (sym none) tt;
    }

none_lacks : (m : Layout) (extents : List Extent) (from : ℕ) → 0 < m.granule → first_address ≤ from → from + most_taken m.granule extents ≤ m.limit → EndBy m.granule from m.instances → m.reserved ≡ [] → LackRoom m extents → ⊥
none_lacks m [] from some low limit ends clear lack = lack
none_lacks m (e ∷ extents) from some low limit ends clear (inl none) = none _ (room_after m e from some low (omega (arith, limit)) ends clear)
none_lacks m (e ∷ extents) from some low limit ends clear (inr (p, placed, later)) =
    let near = next_near (step_of m.granule e.alignment) from (omega (arith, some, some_step m.granule e.alignment)) in
    let lowest = placed.lowest.lowest _ (room_after m e from some low (omega (arith, limit)) ends clear) in
    let size : taken m.granule (length {A = ℕ} (replicate p.size 0)) ≤ e.size + m.granule = rw (length-replicate {A = ℕ} p.size 0, placed.size) (taken_most m.granule e.size some) in
    let to = from + (e.size + m.granule + step_of m.granule e.alignment) in
    none_lacks (with_new m p) extents to some (omega (arith, low)) (omega (arith, limit)) (ends_with m.granule to m.instances (record { address = p.address; bytes = replicate p.size 0 }) (omega (arith, lowest, near.1, size)) (ends_later m.granule from to m.instances (omega arith) ends)) clear later

-- extents that take no more than the space below the limit find room in empty memory
pub all_find_room : (limit : ℕ) (extents : List Extent) → first_address + most_taken grain extents ≤ limit → LackRoom (no_instances limit) extents → ⊥
all_find_room limit extents enough lack = none_lacks (no_instances limit) extents first_address (omega arith) (omega arith) enough tt refl lack
