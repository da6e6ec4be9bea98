-- Each turn takes the next fragment that is ready.
use Rattle.std.proofs.Common.{◌+◌, ◌-◌, ◌<◌, ◌≤◌, List, ℕ, length, sym, subst, ap, ◌∙◌}
use Rattle.cfm_closure.specs.Faults.{Answers}
use Rattle.cfm_closure.specs.Walk.{joining, marking}
use Rattle.cfm_closure.specs.Initialization.{first_left, take_ready, taken_all}
use Rattle.cfm_closure.specs.Kept.Taken.{IsFresh, taken_of}
use Rattle.cfm_closure.proofs.InitLemmas.{take_ready-end, take_ready-none, take_ready-some, take_ready-start, taken-fresh, taking-fresh}
use Rattle.cfm_closure.proofs.init_order.initialized.Goals as goal

pub loop-turn-init : goal.loop-turn-init
loop-turn-init c =
    let pairs = c.args.bindings.now.pairs in
    let order = c.args.bindings.now.order in
    let fresh = subst (IsFresh c.in_ok-taking.taking) c.places.ensures.len c.in_ok-taking.ensures in
    record {
      taking = taking-fresh pairs order c.in_ok-taking.taking c.places.ensures.complete fresh;
      rest = take_ready-start pairs order (taken_of c.in_ok-taking.taking) (taken-fresh pairs c.in_ok-taking.taking fresh);
    }

pub returns-in-None : goal.returns-in-None
returns-in-None c =
    let pairs = c.args.bindings.now.pairs in
    let order = c.args.bindings.now.order in
    let s = taken_of c.loop-turn.taking in
    let end = take_ready-none pairs order s (length order - c.loop-turn._turn) (sym c.in-None.ensures.next) in
    let same = c.in-None.ensures.same in
    subst (Answers (λ order. order.items) c.end.result)
    (ap (λ s. taken_all pairs s (first_left s order)) same ∙ sym end ∙ c.loop-turn.invariant.rest)
    c.end.ensures

pub loop-turn-preserved : goal.loop-turn-preserved
loop-turn-preserved c =
    let pairs = c.args.bindings.now.pairs in
    let order = c.args.bindings.now.order in
    let s = taken_of c.loop-turn.taking in
    let p = c.in-Some.p in
    let under = subst (λ (ps : List ℕ). c.loop-turn._turn < length ps) c.order-turn-end.ensures.order c.loop-turn-test.true in
    let more = take_ready-some pairs order s (length order) c.loop-turn._turn p under (sym c.in-Some.ensures.next) in
    let state = c.in_ok-take-in-Some.ensures.state ∙ ap (λ s. joining p (marking p s)) c.in-Some.ensures.same in
    record {
      taking = c.in_ok-take-in-Some.ensures.taking;
      rest = ap (take_ready (length order - (c.loop-turn._turn + 1)) pairs order) state ∙ sym more ∙ c.loop-turn.invariant.rest;
    }

pub returns : goal.returns
returns c =
    let pairs = c.args.bindings.now.pairs in
    let order = c.args.bindings.now.order in
    let s = taken_of c.loop-turn.taking in
    let past = subst (λ (ps : List ℕ). length ps ≤ c.loop-turn._turn) c.order-turn-end.ensures.order c.loop-turn-test.false in
    let end = take_ready-end pairs order s (length order) c.loop-turn._turn past in
    subst (Answers (λ order. order.items) c.end-2.result) (sym end ∙ c.loop-turn.invariant.rest) c.end-2.ensures
