use Rattle.std.proofs.Common.{◌≡◌, ◌+◌, ◌-◌, ◌*◌, ◌<◌, ◌∙◌, ℕ, ap, arith, drop, min, subst, sym, slice_index, get_or-drop}
use Rattle.pef_plan.specs.Windows.Windows.{BestOf}
use Rattle.pef_plan.proofs.WindowsProofs.WindowLemmas.{best-none, best-older}
use Rattle.pef_plan.proofs.windows.window.Window.lower_older.Goals as goal

pub returns-then-self-eq0-clause-best : goal.returns-then-self-eq0-clause-best
returns-then-self-eq0-clause-best c = rw (← c.self.view_is) (λ width limit rows place w under. best-none width limit rows _ (slice_index c.args.line.now place) place c.if-self-eq0.true w)

pub returns-clause-best : goal.returns-clause-best
returns-clause-best c =
    let s = c.self.inside in
    let i = c.self.invariant in
    let within = i.within in
    let some = c.if-self-eq0.false in
    let wide = rw (← c.self.view_is) at c.requires in
    let skip = (s.limit - s.older) * s.width in
    rw (← c.self.view_is)
    (λ width limit rows place w under.
    let here : place < s.width = omega (arith, under, wide) in
    let number : slice_index c.split_at.result.1.now place ≡ slice_index s.values.items (skip + place) =
    ap (λ xs. slice_index xs place) (c.split_at.ensures.back ∙ ap (drop skip) c.deref.ensures.value) ∙ get_or-drop skip s.values.items place 0 in
    subst (λ (v : ℕ). BestOf (slice_index c.args.line.now place) w.older place v) (sym (c.lower_line.ensures.lower place under ∙ ap (λ n. min (slice_index c.args.line.now place) (1 + n)) number))
    (best-older width limit rows _ (slice_index c.args.line.now place) place (omega (arith, some)) (omega (arith, within)) here w))
