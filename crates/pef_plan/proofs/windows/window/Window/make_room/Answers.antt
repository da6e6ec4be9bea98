use Rattle.std.proofs.Common.{ap, arith, subst, sym, ◌∙◌}
use Rattle.pef_plan.specs.Windows.Windows.{WindowOf, Windowed}
use Rattle.pef_plan.proofs.WindowsProofs.WindowLemmas.{window-pop}
use Rattle.pef_plan.proofs.windows.window.Window.make_room.Goals.{then-self-eq0, else-self-eq0}
use Rattle.pef_plan.proofs.windows.window.Window.make_room.Goals as goal

pub returns-clause-room : goal.returns-clause-room
returns-clause-room c = elim c.if-self-eq0.branch [
  | then-self-eq0 b ↦
      (let is = c.self-2.view_is ∙ b.self-is in
      let e = b.age.ensures in
      let limit_is = ap (λ (v : Windowed). v.limit) is ∙ e.limit in
      let older = ap (λ (v : Windowed). v.older) is ∙ e.older in
      let newer = ap (λ (v : Windowed). v.newer) is ∙ e.newer in
      let some = c.self-2.invariant.some in
      λ width limit rows w.
      window-pop width limit rows _ (subst (λ (v : Windowed). WindowOf width limit rows v) (sym is) (e.same width limit rows w)) (omega (arith, limit_is, older, newer)) (omega (arith, limit_is, older, some)))
  | else-self-eq0 b ↦
      (let is = c.self-2.view_is ∙ b.self-is in
      let same = is ∙ sym c.self.view_is in
      let limit_is = ap (λ (v : Windowed). v.limit) same in
      let older = ap (λ (v : Windowed). v.older) same in
      let newer = ap (λ (v : Windowed). v.newer) same in
      let within = c.self.invariant.within in
      let full = c.if-self.false in
      let some = b.if-self-eq0.false in
      λ width limit rows w.
      window-pop width limit rows _ (subst (λ (v : Windowed). WindowOf width limit rows v) (sym is) w) (omega (arith, limit_is, older, newer, within, full)) (omega (arith, older, some)))
]
