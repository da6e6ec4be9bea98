-- The import that is passed on has this number.
use Rattle.std.proofs.Common.{ap}
use Rattle.cfm_closure.specs.Targets.{hop_by}
use Rattle.cfm_closure.proofs.hops.export_hop.Goals as goal

pub returns-in-Reexport : goal.returns-in-Reexport
returns-in-Reexport c = λ e. (e, ap (hop_by c.args.fragment e) c.in-Reexport.is)
