use Rattle.std.proofs.Common.{refl}
use Rattle.cfm_closure.proofs.closures.Closure.container.Goals as goal

pub returns : goal.returns
returns c = rw (← c.self.view_is, c.fragment.ensures) refl
