-- A store of fragments and stubs, and the root that is prepared in it.
use Rattle.std.proofs.Common.{List, ℕ, map, refl, sym, subst, inl, inr}
use Rattle.cfm_prepare.specs.Contexts.{fresh_state}
use Rattle.cfm_prepare.specs.Steps.{MayNotPrepare, Prepares}
use Rattle.cfm_store.specs.Stores.{Pair}
use Rattle.pef_faults.specs.declared.fault.Fault.{Fault}
use Rattle.pef_faults.specs.declared.fault.Fault.TheVariants.{Prepare}
use Rattle.pef_gather.specs.Seen.{found_seen}
use Rattle.pef_gather.specs.Stores.{supplied}
use Rattle.pef_tool.specs.Answers.Faults.{fault_answer}
use Rattle.pef_tool.specs.Limits.{memory_limit}
use Rattle.pef_tool.specs.Prepare.{StopsStore}
use Rattle.pef_tool.proofs.SupplyLemmas.{store-stops}
use Rattle.pef_tool.proofs.prepare.deliver_supplied.Goals as goal

pub returns-in-Err : goal.returns-in-Err
returns-in-Err g c =
    let found = map found_seen c.args.supply.now.found.now in
    let why = c.gather_fault.result in
    let P : Fault → Type 0 = λ f. StopsStore found c.args.supply.now.stubs.now f in
    (fault_answer why, inr (why, subst P (sym c.gather_fault.ensures) (store-stops found c.args.supply.now.stubs.now c.in-Err.fault c.in-Err.ensures), refl, refl), c.deliver.ensures)

pub returns-in-Ok-prepare_root : goal.returns-in-Ok-prepare_root
returns-in-Ok-prepare_root g c =
    let found = map found_seen c.args.supply.now.found.now in
    let stubs = c.args.supply.now.stubs.now in
    let loaded = c.in-Ok-prepare_root.loaded in
    let P : List Pair → Type 0 = λ pairs. Prepares (fresh_state pairs memory_limit) c.root_name.result.now loaded.connection.0 loaded.context in
    let Q : List ℕ → Type 0 = λ name. Prepares (fresh_state (supplied found stubs) memory_limit) name loaded.connection.0 loaded.context in
    let prepared = subst Q c.root_name.ensures (subst P c.in-Ok.ensures.0 c.in-Ok-prepare_root.ensures.prepared) in
    (c.deliver_prepared.ensures.0, inl (c.in-Ok.ensures.1, inl (loaded.context, loaded.connection.0, prepared, c.deliver_prepared.ensures.1)), c.deliver_prepared.ensures.2)

pub returns-in-Err-prepare_root : goal.returns-in-Err-prepare_root
returns-in-Err-prepare_root g c =
    let found = map found_seen c.args.supply.now.found.now in
    let stubs = c.args.supply.now.stubs.now in
    let why = c.in-Err-prepare_root.fault in
    let P : List Pair → Type 0 = λ pairs. MayNotPrepare (fresh_state pairs memory_limit) c.root_name.result.now why in
    let Q : List ℕ → Type 0 = λ name. MayNotPrepare (fresh_state (supplied found stubs) memory_limit) name why in
    let refused = subst Q c.root_name.ensures (subst P c.in-Ok.ensures.0 c.in-Err-prepare_root.ensures.refused) in
    (fault_answer (Prepare why), inl (c.in-Ok.ensures.1, inr (why, refused, refl, refl)), c.deliver-in-Err-prepare_root.ensures)
