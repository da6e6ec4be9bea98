-- No place is marked.
use Rattle.pef_loader.proofs.MarkLemmas.{none-marked}
use Rattle.pef_loader.proofs.cut_name.Names.new.Goals as goal

pub invariant_of-result-clause-marked : goal.invariant_of-result-clause-marked
invariant_of-result-clause-marked c = none-marked c.new-cut.result.bytes.now _ 64
