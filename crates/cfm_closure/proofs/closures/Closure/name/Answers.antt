use Rattle.cfm_closure.specs.Views.{fragment_seen}
use Rattle.cfm_closure.proofs.HopFacts.{fragment-name}
use Rattle.cfm_closure.proofs.closures.Closure.name.Goals as goal

pub returns : goal.returns
returns c = rw (← c.self.view_is) (fragment-name c.self.inside.bindings.pairs c.args.p (fragment_seen c.fragment.result.now) c.fragment.ensures)
