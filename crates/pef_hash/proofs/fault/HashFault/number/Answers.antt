use Rattle.std.proofs.Common.{rules}
use Rattle.pef_hash.proofs.fault.HashFault.number.Goals as goal

pub returns : goal.returns
returns c = search rules
