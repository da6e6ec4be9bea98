use Rattle.std.proofs.Common.{rules}
use Rattle.cfm_prepare.proofs.fragments.Fragments.give_back.Goals as goal

pub returns : goal.returns
returns c = search rules
