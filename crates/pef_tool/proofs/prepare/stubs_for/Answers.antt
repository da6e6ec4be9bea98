-- A store of the fragments, and the stubs of what it lacks.
use Rattle.std.proofs.Common.{List, [], map, refl, sym, subst, inl, inr}
use Rattle.cfm_store.specs.Stores.{Pair}
use Rattle.pef_faults.specs.declared.fault.Fault.{Fault}
use Rattle.pef_gather.specs.Seen.{found_seen}
use Rattle.pef_tool.specs.Prepare.{AreMade, AreNotMade, StopsStore}
use Rattle.pef_tool.proofs.SupplyLemmas.{store-stops}
use Rattle.pef_tool.proofs.prepare.stubs_for.Goals as goal

pub returns-in-Err-clause-refused : goal.returns-in-Err-clause-refused
returns-in-Err-clause-refused c =
    let found = map found_seen c.args.found.now in
    let P : Fault → Type 0 = λ f. StopsStore found [] f in
    inl (subst P (sym c.gather_fault.ensures) (store-stops found [] c.in-Err.fault c.in-Err.ensures))

pub returns-in-Ok-make_stubs-clause-made : goal.returns-in-Ok-make_stubs-clause-made
returns-in-Ok-make_stubs-clause-made c =
    let P : List Pair → Type 0 = λ pairs. AreMade c.args.stubbing pairs c.in-Ok-make_stubs.stubs.items in
    subst P c.in-Ok.ensures.0 c.in-Ok-make_stubs.ensures

pub returns-clause-refused : goal.returns-clause-refused
returns-clause-refused c =
    let P : List Pair → Type 0 = λ pairs. AreNotMade c.args.stubbing pairs c.in-Err-make_stubs.fault in
    inr (c.in-Err-make_stubs.fault, subst P c.in-Ok.ensures.0 c.in-Err-make_stubs.ensures, refl)
