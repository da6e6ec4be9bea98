-- A store of the fragments, and the stubs of what it lacks.
use Rattle.std.proofs.Common.{List, [], inl, inr, map, refl, sym, subst}
use Rattle.cfm_store.specs.Stores.{Pair}
use Rattle.cfm_stubs.specs.Lacking.{lacking_in, loaders_in, wanted}
use Rattle.cfm_stubs.specs.Stubs.{FailsAs}
use Rattle.cfm_stubs.specs.Values.{AreStubs, refusals}
use Rattle.cfm_stubs.specs.declared.values.StubValues.{StubValues}
use Rattle.pef_faults.specs.declared.fault.Fault.{Fault}
use Rattle.pef_gather.specs.Seen.{found_seen}
use Rattle.pef_request.specs.Requests.{stubs_of}
use Rattle.pef_tool.specs.Prepare.{StopsStore}
use Rattle.pef_tool.specs.WriteStubs.{AreFound, IsUnmade}
use Rattle.pef_tool.proofs.SupplyLemmas.{store-stops}
use Rattle.pef_tool.proofs.write_stubs.make_stubs.Goals as goal

pub returns-in-Err-clause-refused : goal.returns-in-Err-clause-refused
returns-in-Err-clause-refused c =
    let found = map found_seen c.args.found.now in
    let P : Fault → Type 0 = λ f. StopsStore found [] f in
    inl (subst P (sym c.gather_fault.ensures) (store-stops found [] c.in-Err.fault c.in-Err.ensures))

pub returns-in-Ok-stubs-clause-made : goal.returns-in-Ok-stubs-clause-made
returns-in-Ok-stubs-clause-made c =
    let asked = stubs_of c.args.asked.now in
    let store = c.in-Ok.store in
    let stubs = c.in-Ok-stubs.stubs.items in
    let V : StubValues → Type 0 = λ v. AreStubs v (loaders_in store) (wanted asked.weak (lacking_in store)) stubs in
    let P : List Pair → Type 0 = λ pairs. AreFound asked pairs stubs in
    subst P c.in-Ok.ensures.0 (subst V c.values_of.ensures c.in-Ok-stubs.ensures.0)

pub returns-clause-refused : goal.returns-clause-refused
returns-clause-refused c =
    let asked = stubs_of c.args.asked.now in
    let store = c.in-Ok.store in
    let why = c.in-Err-stubs.fault in
    let V : StubValues → Type 0 = λ v. FailsAs why (refusals v (loaders_in store) (wanted asked.weak (lacking_in store))) in
    let P : List Pair → Type 0 = λ pairs. IsUnmade asked pairs why in
    inr (why, subst P c.in-Ok.ensures.0 (subst V c.values_of.ensures c.in-Err-stubs.ensures), refl)
