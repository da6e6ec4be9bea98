use Rattle.std.proofs.Common.{rules}
use Rattle.cfm_prepare.proofs.fragments.Fragments.new.Goals as goal

pub returns : goal.returns
returns c = search rules
