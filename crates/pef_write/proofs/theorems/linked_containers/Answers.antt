-- A linked container is read back.
use Rattle.pef_write.proofs.LinkedLaws.{is_read_back}
use Rattle.pef_write.proofs.theorems.linked_containers.Goals as goal

pub returns : goal.returns
returns c = is_read_back
