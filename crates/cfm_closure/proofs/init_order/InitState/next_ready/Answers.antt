-- The next fragment is one of the store, and is taken or passed over.
use Rattle.std.proofs.Common.{◌≡◌, ◌<◌, List, ℕ, true, false, Some, length, drop, get_or, sym, subst, ap, arith, ◌∙◌}
use Rattle.std.proofs.lemmas.List.{get_or_default}
use Rattle.cfm_closure.specs.Walk.{is_marked}
use Rattle.cfm_closure.specs.Initialization.{is_ready, next_ready}
use Rattle.cfm_closure.specs.Kept.Taken.{taken_of}
use Rattle.cfm_closure.proofs.InitLemmas.{next_ready-here, place_in_order}
use Rattle.cfm_closure.proofs.init_order.InitState.next_ready.Goals as goal

pub index-requires : goal.index-requires
index-requires c =
    let place = place_in_order c.args.bindings.now.pairs c.args.bindings.now.order c.order-p-items.result.now c.loop-p.p-index c.requires.complete c.order-p-items.ensures.order c.loop-p-test.true in
    let size = c.loop-p.invariant.taking.taken_size in let long = c.loop-p.self.taken.ok.0 in omega arith

pub returns-then-is_ready-clause-inside : goal.returns-then-is_ready-clause-inside
returns-then-is_ready-clause-inside c =
    place_in_order c.args.bindings.now.pairs c.args.bindings.now.order c.order-p-items.result.now c.loop-p.p-index c.requires.complete c.order-p-items.ensures.order c.loop-p-test.true

pub returns-then-is_ready-clause-next : goal.returns-then-is_ready-clause-next
returns-then-is_ready-clause-next c =
    let pairs = c.args.bindings.now.pairs in
    let order = c.args.bindings.now.order in
    let ps = c.order-p-items.result.now in
    let same = c.order-p-items.ensures.order in
    let s = taken_of c.loop-p.self in
    let i = c.loop-p.p-index in
    let place = place_in_order pairs order ps i c.requires.complete same c.loop-p-test.true in
    let inside : get_or ps i 0 < length c.loop-p.self.taken.items = let size = c.loop-p.invariant.taking.taken_size in omega arith in
    let unmet : is_marked s (get_or ps i 0) ≡ false = get_or_default c.loop-p.self.taken.items (get_or ps i 0) true c.index.result.now inside ∙ sym c.index.ensures ∙ c.if-not-index.true in
    let ready : true ≡ is_ready pairs s (get_or ps i 0) = c.if-is_ready.ensures.ready in
    let P : List ℕ → Type 0 = λ ps. (i < length ps) × (is_marked s (get_or ps i 0) ≡ false) × (is_ready pairs s (get_or ps i 0) ≡ true) in
    let all = subst P same (c.loop-p-test.true, unmet, sym ready) in
    ap (λ (ps : List ℕ). Some (get_or ps i 0)) same
    ∙ sym (next_ready-here pairs s order i all.0 all.1 all.2)
    ∙ ap (λ s. next_ready pairs s (drop i order)) c.loop-p.invariant.same
    ∙ c.loop-p.invariant.rest
