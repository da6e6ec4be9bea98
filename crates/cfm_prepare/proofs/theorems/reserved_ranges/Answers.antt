use Rattle.cfm_prepare.proofs.ReserveLemmas.{closed-reserved, prepared-reserved}
use Rattle.cfm_prepare.proofs.theorems.reserved_ranges.Goals as goal

pub returns-clause-prepared : goal.returns-clause-prepared
returns-clause-prepared c = λ s t rule name number. prepared-reserved s t name number

pub returns-clause-closed : goal.returns-clause-closed
returns-clause-closed c = closed-reserved
