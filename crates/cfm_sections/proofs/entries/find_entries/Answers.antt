use Rattle.std.proofs.Common.{rules}
use Rattle.cfm_sections.proofs.entries.find_entries.Goals as goal

pub returns-clause-term : goal.returns-clause-term
returns-clause-term c = search rules
