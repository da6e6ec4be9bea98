-- A container of exports is read back.
use Rattle.pef_write.proofs.NumberedLemmas.{exported}
use Rattle.pef_write.proofs.theorems.exports_are_read_back.Goals as goal

pub returns : goal.returns
returns c = λ v exports bytes holds fits is. exported exports fits v bytes holds is
