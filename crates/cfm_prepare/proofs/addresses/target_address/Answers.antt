use Rattle.std.proofs.Common.{rules}
use Rattle.cfm_prepare.proofs.addresses.target_address.Goals as goal

pub returns-in-Some-At : goal.returns-in-Some-At
returns-in-Some-At c = search rules
