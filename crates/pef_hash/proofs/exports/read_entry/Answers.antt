use Rattle.std.proofs.Common.{rules}
use Rattle.pef_hash.specs.Exports.{entry_at}
use Rattle.pef_hash.proofs.exports.read_entry.Goals as goal

pub returns : goal.returns
unfolding entry_at
returns c = search rules
