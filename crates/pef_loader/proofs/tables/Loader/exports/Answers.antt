use Rattle.std.proofs.Common.{rules}
use Rattle.pef_loader.proofs.tables.Loader.exports.Goals as goal

pub returns-clause-count : goal.returns-clause-count
returns-clause-count c = search rules
