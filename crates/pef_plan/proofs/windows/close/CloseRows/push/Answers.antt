use Rattle.std.proofs.Common.{◌≡◌, ◌+◌, ◌++◌, ◌∷◌, ◌∙◌, [], ap, arith, length, length-append, take}
use Rattle.std.proofs.lemmas.List.{with_items_is}
use Rattle.std.specs.Vec.{with_items}
use Rattle.pef_plan.specs.Windows.Tables.{close_rows}
use Rattle.pef_plan.proofs.WindowsProofs.CloseLemmas.{close-added, grown-front}
use Rattle.pef_plan.proofs.windows.close.CloseRows.push.Goals as goal

pub returns : goal.returns
returns c =
    let s = c.self.inside in
    let row = c.args.row.now in
    let new = c.fill_steps.new.steps in
    let wide : length row ≡ s.width = rw (← c.self.view_is) at c.requires.wide in
    let start = c.len-start.ensures ∙ s.steps.ok.0 in
    let front : c.split_at_mut-steps.result.0.now ≡ s.steps.items =
    c.split_at_mut-steps.ensures.front
    ∙ (ap (take c.len-start.result) (c.deref_mut.ensures.value ∙ c.in_ok-resize.ensures.items)
    ∙ grown-front s.steps.items _ c.len-start.result (c.len-start.result + length row) start (omega (arith, start))) in
    let long : length new ≡ length row =
    (let one = c.fill_steps.ensures.len in
    let two = c.split_at_mut-steps.ensures.back_len in
    let three = c.deref_mut.ensures.len in
    let four = c.in_ok-resize.ensures.len in
    omega (arith, one, two, three, four)) in
    let steps : (with_items c.resize.new.self (c.split_at_mut-steps.result.0.now ++ new)).items ≡ s.steps.items ++ new =
    with_items_is c.resize.new.self (c.split_at_mut-steps.result.0.now ++ new)
    (let sum = length-append c.split_at_mut-steps.result.0.now new in
    let first = ap length front in
    let four = c.in_ok-resize.ensures.len in
    omega (arith, sum, first, start, long, four))
    ∙ ap (λ xs. xs ++ new) front in
    rw (← c.self.view_is, c.in_ok-push.ensures.items, c.in_ok-reserve.ensures.items, steps)
    (ap (λ rows. record { width = s.width; rows = rows })
    (close-added s.width c.low_of-low.result s.lows.items s.steps.items new c.self.invariant.full (long ∙ wide)
    ∙ ap (λ r. close_rows s.width s.lows.items s.steps.items ++ r ∷ []) c.fill_steps.ensures.are))
