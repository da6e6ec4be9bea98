use Rattle.std.proofs.Common.{rules}
use Rattle.pef_listing.proofs.fault.ListFault.number.Goals as goal

pub returns-in-Loader : goal.returns-in-Loader
returns-in-Loader c = search rules
