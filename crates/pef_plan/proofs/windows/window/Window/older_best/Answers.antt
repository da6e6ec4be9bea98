use Rattle.std.proofs.Common.{◌-◌, ◌*◌, ◌+◌, ◌∙◌, ap, arith, min, subst, sym, ℕ}
use Rattle.std.proofs.lemmas.List.{get_or_default}
use Rattle.pef_plan.specs.Windows.Windows.{BestOf}
use Rattle.pef_plan.proofs.WindowsProofs.WindowLemmas.{best-none, best-older, slot-inside}
use Rattle.pef_plan.proofs.windows.window.Window.older_best.Goals as goal

pub returns-then-self-eq0 : goal.returns-then-self-eq0
returns-then-self-eq0 c = rw (← c.self.view_is) (λ width limit rows w. best-none width limit rows _ c.args.first c.args.place c.if-self-eq0.true w)

pub returns : goal.returns
returns c =
    let s = c.self.inside in
    let i = c.self.invariant in
    let within = i.within in
    let some = c.if-self-eq0.false in
    let place = rw (← c.self.view_is) at c.requires in
    let inside = i.older_inside (omega (arith, some)) in
    let at = (s.limit - s.older) * s.width + c.args.place in
    let under = slot-inside s.width s.limit (s.limit - s.older) c.args.place (omega (arith, within, some)) place in
    rw (← c.self.view_is)
    (λ width limit rows w.
    subst (λ (v : ℕ). BestOf c.args.first w.older c.args.place v) (sym (c.min.ensures ∙ ap (λ n. min c.args.first (1 + n)) (c.from.ensures ∙ (c.index.ensures ∙ get_or_default s.values.items at c.index.result.now 0 (omega (arith, under, inside))))))
    (best-older width limit rows _ c.args.first c.args.place (omega (arith, some)) (omega (arith, within)) place w))
