-- The first fragment that is left is refused.
use Rattle.std.proofs.Common.{◌≡◌, ◌<◌, List, ℕ, true, false, Ok, Err, length, get_or, sym, subst, ap, arith, ◌∙◌}
use Rattle.std.proofs.lemmas.List.{get_or_default}
use Rattle.pef_format.specs.declared.place.Part.TheVariants as part
use Rattle.cfm_closure.specs.Faults.{init_loop}
use Rattle.cfm_closure.specs.Fragments.{fragment_of, part_place, place_at}
use Rattle.cfm_closure.specs.Walk.{is_marked}
use Rattle.cfm_closure.specs.Views.{fragment_seen}
use Rattle.cfm_closure.specs.Initialization.{awaited, taken_all}
use Rattle.cfm_closure.specs.Kept.Taken.{taken_of}
use Rattle.cfm_closure.proofs.HopFacts.{fragment-name, place_at-is}
use Rattle.cfm_closure.proofs.InitLemmas.{first_left-here, place_in_order}
use Rattle.cfm_closure.proofs.init_order.InitState.end.Goals as goal

pub index-requires : goal.index-requires
index-requires c =
    let place = place_in_order c.args.bindings.now.pairs c.args.bindings.now.order c.order-p-items.result.now c.loop-p.p-index c.requires.complete c.order-p-items.ensures.order c.loop-p-test.true in
    let size = c.requires.taken_size in let long = c.args.self.taken.ok.0 in omega arith

pub returns-then-not-index : goal.returns-then-not-index
returns-then-not-index c =
    let pairs = c.args.bindings.now.pairs in
    let order = c.args.bindings.now.order in
    let ps = c.order-p-items.result.now in
    let same = c.order-p-items.ensures.order in
    let s = taken_of c.args.self in
    let i = c.loop-p.p-index in
    let place = place_in_order pairs order ps i c.requires.complete same c.loop-p-test.true in
    let inside : get_or ps i 0 < length c.args.self.taken.items = let size = c.requires.taken_size in omega arith in
    let unmet : is_marked s (get_or ps i 0) ≡ false = get_or_default c.args.self.taken.items (get_or ps i 0) true c.index.result.now inside ∙ sym c.index.ensures ∙ c.if-not-index.true in
    let P : List ℕ → Type 0 = λ ps. (i < length ps) × (is_marked s (get_or ps i 0) ≡ false) × (fragment_of pairs (get_or ps i 0) ≡ Ok (fragment_seen c.fragment-fragment.result.now))
    × (c.passed-awaited.result ≡ awaited pairs s (get_or ps i 0)) in
    let all = subst P same (c.loop-p-test.true, unmet, c.fragment-fragment.ensures, c.passed-awaited.ensures.awaited) in
    let f = fragment_seen c.fragment-fragment.result.now in
    let p = get_or order i 0 in
    ap (taken_all pairs s) (sym c.loop-p.invariant ∙ first_left-here pairs s order i all.0 all.1)
    ∙ ap (λ name. Err (init_loop name (place_at pairs p part.Library (awaited pairs s p) 20))) (sym (fragment-name pairs p f all.2))
    ∙ ap (λ place. Err (init_loop f.name place)) (place_at-is pairs p part.Library (awaited pairs s p) 20 f all.2)
    ∙ ap (λ l. Err (init_loop f.name (part_place f part.Library l 20))) (sym all.3)
    ∙ ap (λ place. Err (init_loop f.name place)) (sym c.library_place.ensures)
