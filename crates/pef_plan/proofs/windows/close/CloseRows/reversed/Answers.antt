use Rattle.std.proofs.Common.{◌≡◌, ◌+◌, ◌≤◌, ◌∙◌, [], ap, arith, drop, length, rules, sym}
use Rattle.std.specs.Prelude.{reverse}
use Rattle.std.proofs.lemmas.List.{drop_all, length-drop, length-reverse}
use Rattle.pef_plan.proofs.WindowsProofs.CloseLemmas.{close-count}
use Rattle.pef_plan.proofs.windows.close.CloseRows.reversed.Goals as goal

pub rows-init : goal.rows-init
rows-init c =
    let s = c.self.inside in
    let count = close-count s.width s.lows.items s.steps.items in
    let left = c.len-left.ensures in
    let len = s.lows.ok.0 in
    let all = ap (λ r. length r.rows) c.self.view_is in
    let none : drop c.len-left.result c.args.self.now.rows ≡ [] = drop_all c.len-left.result c.args.self.now.rows (omega (arith, count, left, len, all)) in
    let width = ap (λ r. r.width) c.self.view_is in
    record {
      inside = omega (arith, count, left, len, all);
      wide = c.in_ok-row.ensures.len ∙ width;
      made = c.new-rows.ensures ∙ (ap (λ w. record { width = w; rows = [] }) width ∙ ap (λ rows. record { width = c.args.self.now.width; rows = reverse rows }) (sym none));
    }

pub push-requires-clause-room : goal.push-requires-clause-room
push-requires-clause-room c =
    let s = c.self.inside in
    let i = c.rows.invariant in
    let inside = i.inside in
    let some = c.rows-test.true in
    let made = ap (λ r. length r.rows) i.made in
    let turned = length-reverse (drop c.rows.left c.args.self.now.rows) in
    let left = length-drop c.rows.left c.args.self.now.rows in
    let count = close-count s.width s.lows.items s.steps.items in
    let all = ap (λ r. length r.rows) c.self.view_is in
    let len = s.lows.ok in
    let low : length c.rows.rows.rows + 1 ≤ s.lows.len = (let same = len.0 in omega (arith, inside, some, made, turned, left, count, all, same)) in
    search (rules, low, len)
