-- The next steps in the code.
use Rattle.std.specs.Prelude.{◌≡◌, ℕ, ◌<◌, List, Result, Ok, Err, Contains}
use Rattle.cfm_store.specs.Stores.{Pair}
use Rattle.cfm_closure.specs.declared.fault.BindFault.{BindFault}
use Rattle.cfm_closure.specs.Faults.{BindRefusal, FailsAs}
use Rattle.cfm_closure.specs.Fragments.{import_count}
use Rattle.cfm_closure.specs.declared.hops.Hop.{Hop as CodeHop}
use Rattle.cfm_closure.specs.declared.hops.Hop.TheVariants as code
use Rattle.cfm_closure.specs.Targets.{Hop, ends, through}
use Rattle.cfm_closure.specs.Kept.Resolutions.{meant}

-- a step of the code doesn't have the export that it goes through
abbrev pub IsHop : CodeHop → Hop → Type 0
IsHop (code.Ends resolution) h = h ≡ ends (meant resolution)
IsHop (code.Through q k) h = (e : ℕ) × (h ≡ through q e k)

-- a result is the hop, or the refusal
abbrev pub LeadsTo : Result CodeHop BindFault → Result Hop BindRefusal → Type 0
LeadsTo (Ok (code.Ends resolution)) expected = expected ≡ Ok (ends (meant resolution))
LeadsTo (Ok (code.Through q k)) expected = (e : ℕ) × (expected ≡ Ok (through q e k))
LeadsTo (Err e) expected = FailsAs e expected

-- an import that is passed on is one of a fragment of the order
abbrev pub StaysInside : List Pair → List ℕ → CodeHop → Type 0
StaysInside pairs order (code.Ends resolution) = Unit {0}
StaysInside pairs order (code.Through q k) = Contains order q × (k < import_count pairs q)
