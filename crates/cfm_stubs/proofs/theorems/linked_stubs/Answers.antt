-- A linked container is such a stub.
use Rattle.cfm_stubs.proofs.LinkedStubs.{linked-made}
use Rattle.cfm_stubs.proofs.theorems.linked_stubs.Goals as goal

pub returns : goal.returns
returns c = linked-made
