-- The search in a part finds the first zero byte there, or none.
use Rattle.pef_loader.proofs.MarkLemmas.{zero-none, zero-some}
use Rattle.pef_loader.proofs.marks.zero_between.Goals as goal

pub returns-in-Some : goal.returns-in-Some
returns-in-Some c = rw (← c.bytes.ensures) (zero-some c.bytes.result.now c.args.from c.args.to c.in-Some.at c.requires.order (rw c.bytes.ensures c.requires.inside) c.in-Some.ensures)

pub returns-in-None : goal.returns-in-None
returns-in-None c = rw (← c.bytes.ensures) (zero-none c.bytes.result.now c.args.from c.args.to c.requires.order c.in-None.ensures)
