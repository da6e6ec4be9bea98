use Rattle.std.proofs.Common.{ap, arith, length, min, subst, sym, ℕ, ◌+◌, ◌∙◌}
use Rattle.std.proofs.lemmas.List.{get_or_default}
use Rattle.pef_plan.specs.Windows.Windows.{BestOf}
use Rattle.pef_plan.proofs.WindowsProofs.WindowLemmas.{some_numbers, window-best, window-best_older}
use Rattle.pef_plan.proofs.windows.window.Window.best.Goals as goal

pub returns-then-self-eq0 : goal.returns-then-self-eq0
returns-then-self-eq0 c =
    let none = c.if-self-eq0.true in
    let older = rw (← c.self.view_is) at c.older_best-best.ensures in
    rw (← c.self.view_is)
    (λ width limit rows w. window-best_older width limit rows _ c.args.first c.args.place c.older_best-best.result none w (older width limit rows w))

pub returns-else-self-eq0 : goal.returns-else-self-eq0
returns-else-self-eq0 c =
    let s = c.self.inside in
    let i = c.self.invariant in
    let some = c.if-self-eq0.false in
    let place = rw (← c.self.view_is) at c.requires in
    let older = rw (← c.self.view_is) at c.older_best-best.ensures in
    let wide = i.low_wide (some_numbers s.newer s.width (length s.values.items) (omega (arith, some)) (omega (arith, place)) i.newer_inside) in
    rw (← c.self.view_is)
    (λ width limit rows w.
    subst (λ (v : ℕ). BestOf c.args.first rows c.args.place v) (sym (c.min.ensures ∙ ap (λ n. min c.older_best-best.result (1 + n)) (c.from.ensures ∙ (c.index.ensures ∙ get_or_default s.low.items c.args.place c.index.result.now 0 (omega (arith, place, wide))))))
    (window-best width limit rows _ c.args.first c.args.place c.older_best-best.result (omega (arith, some)) place w (older width limit rows w)))
