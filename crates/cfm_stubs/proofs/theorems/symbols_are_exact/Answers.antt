-- The symbols are exactly the names of the imports.
use Rattle.cfm_stubs.proofs.ExactLemmas.{named_exactly, own_names}
use Rattle.cfm_stubs.proofs.theorems.symbols_are_exact.Goals as goal

pub returns : goal.returns
returns c = record { named = named_exactly; once = own_names }
