use Rattle.std.proofs.Common.{rules}
use Rattle.pef_hash.proofs.exports.Exports.has_table.Goals as goal

pub returns : goal.returns
returns c = search rules
