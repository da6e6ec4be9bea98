use Rattle.cfm_prepare.proofs.GoneLemmas.{run-placed, run-released}
use Rattle.cfm_prepare.proofs.theorems.new_and_released_fragments.Goals as goal

pub returns : goal.returns
returns c = record { released = run-released; placed = λ pairs choices steps s t rule name number placed p. run-placed pairs choices steps s t name number placed p }
