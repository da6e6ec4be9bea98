-- The connections before this one name no such library.
use Rattle.cfm_prepare.proofs.ConnectionLemmas.{NamesFrom}
use Rattle.cfm_prepare.proofs.connections.Connections.names_library.Given as goal

abbrev pub invariant-loop-slot : goal.invariant-loop-slot
invariant-loop-slot l = NamesFrom l.slot-items l.slot-index l.name
