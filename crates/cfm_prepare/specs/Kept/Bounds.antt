-- What is left of a bound, fragment by fragment.
use Rattle.std.specs.Prelude.{◌≡◌, ℕ, ◌-◌, List, [], ◌∷◌, Option, None, Some, if◌then◌else◌, nat_le}
use Rattle.std.specs.Option.{option_map_or}
use Rattle.cfm_store.specs.Stores.{Pair, pair_of}
use Rattle.cfm_prepare.specs.Bounds.{AreWithin, PassesAt, bytes_in, steps_in}
use Rattle.cfm_prepare.specs.Options.{Bounds}
use Rattle.cfm_prepare.specs.declared.bounds.Measure.{Measure}
use Rattle.cfm_prepare.specs.declared.bounds.Measure.TheVariants.{Bytes, Steps}
use Rattle.cfm_prepare.specs.declared.fault.PrepareFault.{PrepareFault}
use Rattle.cfm_prepare.specs.declared.fault.PrepareFault.TheVariants as fault

-- what a fragment takes
abbrev pub weight_of : Measure → List Pair → ℕ → ℕ
weight_of (Bytes granule) pairs p = bytes_in pairs granule.bytes p
weight_of Steps pairs p = steps_in pairs p

-- what is left after n are taken; none if there aren't so many
abbrev pub left_of : ℕ → ℕ → Option ℕ
left_of left n = if nat_le n left then Some (left - n) else None

-- the first of some fragments for which not enough is left
abbrev pub first_past : (ℕ → ℕ) → ℕ → List ℕ → Option ℕ
first_past weight left [] = None
first_past weight left (p ∷ ps) = option_map_or (λ less. first_past weight less ps) (left_of left (weight p)) (Some p)

-- why new fragments take too much
abbrev pub IsPastBounds : List Pair → ℕ → Bounds → List ℕ → PrepareFault → Type 0
IsPastBounds pairs granule bounds new fault.TooManyConnections = ⊥
IsPastBounds pairs granule bounds new fault.RootMissing = ⊥
IsPastBounds pairs granule bounds new (fault.Bind f) = ⊥
IsPastBounds pairs granule bounds new (fault.TooManyBytes f) = (p : ℕ) × PassesAt bounds.bytes (bytes_in pairs granule) new p × (f.now ≡ (pair_of pairs p).name)
IsPastBounds pairs granule bounds new (fault.TooManyStepsInAll f) = AreWithin bounds.bytes (bytes_in pairs granule) new × (p : ℕ) × PassesAt bounds.steps (steps_in pairs) new p × (f.now ≡ (pair_of pairs p).name)
IsPastBounds pairs granule bounds new (fault.Fragment f) = ⊥
IsPastBounds pairs granule bounds new fault.OutOfMemory = ⊥
