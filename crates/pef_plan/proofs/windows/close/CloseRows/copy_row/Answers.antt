use Rattle.std.proofs.Common.{◌≡◌, ◌+◌, ◌*◌, ◌≤◌, ◌∙◌, ap, arith, drop, length, map, rules, sym, take}
use Rattle.std.proofs.Math.Path.{ap₂}
use Rattle.std.proofs.lemmas.List.{get_or_read, length-drop}
use Rattle.pef_words.proofs.Laws.Lists.{all-at}
use Rattle.pef_plan.proofs.WindowsProofs.CloseLemmas.{close-at, close-count, close-inside}
use Rattle.pef_plan.proofs.windows.close.CloseRows.copy_row.Goals as goal

pub overflow_mul-index : goal.overflow_mul-index
overflow_mul-index c =
    let s = c.self.inside in
    let low = close-inside s.width c.args.index s.lows.items s.steps.items c.self.invariant (rw (← c.self.view_is) at c.requires.index) in
    let len = s.steps.ok in
    search (rules, low, len)

pub split_at-requires : goal.split_at-requires
split_at-requires c =
    let s = c.self.inside in
    let low = close-inside s.width c.args.index s.lows.items s.steps.items c.self.invariant (rw (← c.self.view_is) at c.requires.index) in
    rw c.deref.ensures.value (omega (arith, low))

pub index-requires : goal.index-requires
index-requires c =
    let s = c.self.inside in
    let under = rw (← c.self.view_is) at c.requires.index in
    let count = close-count s.width s.lows.items s.steps.items in
    let len = s.lows.ok.0 in
    omega (arith, under, count, len)

pub raise-requires-clause-small : goal.raise-requires-clause-small
raise-requires-clause-small c =
    let s = c.self.inside in
    let under = rw (← c.self.view_is) at c.requires.index in
    let count = close-count s.width s.lows.items s.steps.items in
    let is = get_or_read s.lows.items c.args.index _ (omega (arith, under, count)) c.index.ensures 0 in
    let low = all-at (λ l. l ≤ 1048576) s.lows.items c.args.index 0 c.self.invariant.small (omega (arith, under, count)) in
    omega (arith, is, low)

pub raise-requires-clause-len : goal.raise-requires-clause-len
raise-requires-clause-len c =
    let s = c.self.inside in
    let low = close-inside s.width c.args.index s.lows.items s.steps.items c.self.invariant (rw (← c.self.view_is) at c.requires.index) in
    let wide = rw (← c.self.view_is) at c.requires.wide in
    rw (c.split_at.ensures.back, c.deref.ensures.value, length-drop (c.args.index * s.width) s.steps.items) (omega (arith, low, wide))

pub returns : goal.returns
returns c =
    let s = c.self.inside in
    let under = rw (← c.self.view_is) at c.requires.index in
    let wide : length c.args.row.now ≡ s.width = rw (← c.self.view_is) at c.requires.wide in
    let count = close-count s.width s.lows.items s.steps.items in
    let is = get_or_read s.lows.items c.args.index _ (omega (arith, under, count)) c.index.ensures 0 in
    rw (← c.self.view_is)
    (c.raise.ensures
    ∙ (ap₂ (λ low steps. map (λ step. low + step) steps) is
    (ap₂ take wide (c.split_at.ensures.back ∙ ap (drop (c.args.index * s.width)) c.deref.ensures.value))
    ∙ sym (close-at s.width c.args.index s.lows.items s.steps.items (omega (arith, under, count)))))
