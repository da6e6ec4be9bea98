-- At first no place is marked.
use Rattle.pef_loader.proofs.MarkLemmas.{none-marked}
use Rattle.pef_loader.proofs.name_reader.NameReader.new.Goals as goal

pub invariant_of-result-clause-marked : goal.invariant_of-result-clause-marked
invariant_of-result-clause-marked c = none-marked c.args.names.cut.bytes.now _ 256
