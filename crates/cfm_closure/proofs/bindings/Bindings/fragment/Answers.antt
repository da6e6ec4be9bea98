-- The tables of it were read from the store.
use Rattle.cfm_closure.proofs.bindings.Bindings.fragment.Goals as goal

pub returns : goal.returns
returns c = c.closed.ensures.closed.read
