use Rattle.std.proofs.Common.{◌≡◌, ◌*◌, ◌∙◌, List, ap, arith, length, subst, sym, ℕ}
use Rattle.pef_plan.specs.Windows.Windows.{LowToNext, WindowOf}
use Rattle.pef_plan.proofs.WindowsProofs.TableLemmas.{same_slice}
use Rattle.pef_plan.proofs.WindowsProofs.WindowLemmas.{window-aged}
use Rattle.pef_plan.proofs.windows.window.Window.age.Goals as goal

pub returns-clause-same : goal.returns-clause-same
returns-clause-same c =
    let s = c.self.inside in
    let i = c.self.invariant in
    let within = i.within in
    let full = rw (← c.self.view_is) at c.requires.full in
    let new = c.lower_to_next.new.values in
    let len : length new ≡ length s.values.items = c.lower_to_next.ensures.len ∙ ap length c.deref_mut.ensures.value in
    let all = same_slice s.values.len new s.values.items (len ∙ sym s.values.ok.0) (sym s.values.ok.0) in
    let low = subst (λ (vs : List ℕ). LowToNext s.width (s.limit * s.width) vs new) c.deref_mut.ensures.value c.lower_to_next.ensures.lower in
    rw (← c.self.view_is)
    (λ width limit rows w.
    subst (λ (vs : List ℕ). WindowOf width limit rows (record { width = s.width; limit = s.limit; older = s.limit; newer = 0; values = vs; low = s.low.items })) (sym all)
    (window-aged width limit rows _ new w full (omega (arith, within, full)) low))
