use Rattle.std.proofs.Common.{◌+◌, ◌≤◌, ◌∙◌, arith, rules}
use Rattle.std.proofs.Math.Path.{ap₂}
use Rattle.std.proofs.lemmas.List.{get_or_read}
use Rattle.pef_words.proofs.Laws.Lists.{all-at}
use Rattle.pef_plan.proofs.WindowsProofs.CloseLemmas.{close-count, close-inside, close-number}
use Rattle.pef_plan.proofs.windows.close.CloseRows.number.Goals as goal

pub index-requires : goal.index-requires
index-requires c =
    let s = c.self.inside in
    let under = rw (← c.self.view_is) at c.requires.index in
    let count = close-count s.width s.lows.items s.steps.items in
    let len = s.lows.ok.0 in
    omega (arith, under, count, len)

pub overflow_mul-index : goal.overflow_mul-index
overflow_mul-index c =
    let s = c.self.inside in
    let low = close-inside s.width c.args.index s.lows.items s.steps.items c.self.invariant (rw (← c.self.view_is) at c.requires.index) in
    let len = s.steps.ok in
    search (rules, low, len)

pub overflow_add-index : goal.overflow_add-index
overflow_add-index c =
    let s = c.self.inside in
    let low = close-inside s.width c.args.index s.lows.items s.steps.items c.self.invariant (rw (← c.self.view_is) at c.requires.index) in
    let place = rw (← c.self.view_is) at c.requires.place in
    let len = s.steps.ok in
    search (rules, low, len, place)

pub index-requires-2 : goal.index-requires-2
index-requires-2 c =
    let s = c.self.inside in
    let low = close-inside s.width c.args.index s.lows.items s.steps.items c.self.invariant (rw (← c.self.view_is) at c.requires.index) in
    let place = rw (← c.self.view_is) at c.requires.place in
    let len = s.steps.ok.0 in
    omega (arith, low, place, len)

pub overflow_add-result : goal.overflow_add-result
overflow_add-result c =
    let s = c.self.inside in
    let under = rw (← c.self.view_is) at c.requires.index in
    let count = close-count s.width s.lows.items s.steps.items in
    let is = get_or_read s.lows.items c.args.index _ (omega (arith, under, count)) c.index.ensures 0 in
    let low = all-at (λ l. l ≤ 1048576) s.lows.items c.args.index 0 c.self.invariant.small (omega (arith, under, count)) in
    let small : c.index.result.now ≤ 1048576 = omega (arith, is, low) in
    search (rules, small)

pub returns : goal.returns
returns c =
    let s = c.self.inside in
    let under = rw (← c.self.view_is) at c.requires.index in
    let place = rw (← c.self.view_is) at c.requires.place in
    let count = close-count s.width s.lows.items s.steps.items in
    let inside = close-inside s.width c.args.index s.lows.items s.steps.items c.self.invariant under in
    let low = get_or_read s.lows.items c.args.index _ (omega (arith, under, count)) c.index.ensures 0 in
    let step = c.from.ensures ∙ get_or_read s.steps.items _ _ (omega (arith, inside, place)) c.index-2.ensures 0 in
    rw (← c.self.view_is)
    (ap₂ (λ x y. x + y) low step ∙ close-number s.width c.args.index c.args.place s.lows.items s.steps.items c.self.invariant under place)
