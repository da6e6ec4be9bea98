-- A fragment of the order is one of the store.
use Rattle.std.proofs.Common.{◌<◌, length, true, sym, ◌∙◌, arith}
use Rattle.std.proofs.lemmas.List.{get_or_default}
use Rattle.cfm_closure.specs.Kept.Taken.{taken_of}
use Rattle.cfm_closure.proofs.InitLemmas.{awaits-some}
use Rattle.cfm_closure.proofs.init_order.InitState.awaits.Goals as goal

pub index-requires : goal.index-requires
index-requires c =
    let place = (c.requires.taking.complete.members c.in-Some.q c.in-Some.ensures.inside).place in
    let size = c.requires.taking.taken_size in
    let long = c.args.self.now.taken.ok.0 in
    omega arith

pub returns-in-Some : goal.returns-in-Some
returns-in-Some c =
    let place = (c.requires.taking.complete.members c.in-Some.q c.in-Some.ensures.inside).place in
    let inside : c.in-Some.q < length c.args.self.now.taken.items = let size = c.requires.taking.taken_size in omega arith in
    awaits-some c.args.bindings.now.pairs (taken_of c.args.self.now) c.args.p c.args.l c.in-Some.q c.index.result.now (sym c.in-Some.ensures.before)
    (get_or_default c.args.self.now.taken.items c.in-Some.q true c.index.result.now inside ∙ sym c.index.ensures)
