use Rattle.std.proofs.Common.{rules}
use Rattle.cfm_prepare.proofs.context.Context.fragment_section.Goals as goal

pub returns-clause-section : goal.returns-clause-section
returns-clause-section c = search rules
