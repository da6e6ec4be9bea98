use Rattle.std.proofs.Common.{◌+◌, ◌<◌, ◌∙◌, ℕ, ap, arith, min, subst, sym, slice_index}
use Rattle.pef_plan.specs.Windows.Windows.{BestOf}
use Rattle.pef_plan.proofs.WindowsProofs.WindowLemmas.{window-best, window-best_older}
use Rattle.pef_plan.proofs.windows.window.Window.lower.Goals as goal

pub returns-then-self-eq0-clause-best : goal.returns-then-self-eq0-clause-best
returns-then-self-eq0-clause-best c =
    let none = c.if-self-eq0.true in
    let older = rw (← c.self.view_is) at c.lower_older.ensures.best in
    rw (← c.self.view_is)
    (λ width limit rows place w under. window-best_older width limit rows _ (slice_index c.args.line.now place) place (slice_index c.lower_older.new.line place) none w (older width limit rows place w under))

pub returns-clause-best : goal.returns-clause-best
returns-clause-best c =
    let s = c.self.inside in
    let some = c.if-self-eq0.false in
    let wide = rw (← c.self.view_is) at c.requires in
    let older = rw (← c.self.view_is) at c.lower_older.ensures.best in
    let len = c.lower_older.ensures.len in
    rw (← c.self.view_is)
    (λ width limit rows place w under.
    let first = slice_index c.args.line.now place in
    let best = slice_index c.lower_older.new.line place in
    let here : place < s.width = omega (arith, under, wide) in
    subst (λ (v : ℕ). BestOf first rows place v) (sym (c.lower_line.ensures.lower place (omega (arith, under, len)) ∙ ap (λ xs. min best (1 + slice_index xs place)) c.deref.ensures.value))
    (window-best width limit rows _ first place best (omega (arith, some)) here w (older width limit rows place w under)))
