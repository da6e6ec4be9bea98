use Rattle.std.proofs.Common.{rules}
use Rattle.pef_hash.specs.Exports.{name_of}
use Rattle.pef_hash.proofs.exports.Exports.name.Goals as goal

pub returns-in_err-name : goal.returns-in_err-name
unfolding name_of
returns-in_err-name c = search rules

pub returns : goal.returns
unfolding name_of
returns c = search rules
