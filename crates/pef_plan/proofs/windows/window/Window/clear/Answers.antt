use Rattle.std.proofs.Common.{refl}
use Rattle.pef_plan.proofs.WindowsProofs.WindowLemmas.{window-none}
use Rattle.pef_plan.proofs.windows.window.Window.clear.Goals as goal

pub returns-clause-gone : goal.returns-clause-gone
returns-clause-gone c = rw (← c.self.view_is) (λ width limit rows w. window-none width limit _ w.width_is w.limit_is w.some refl refl)
