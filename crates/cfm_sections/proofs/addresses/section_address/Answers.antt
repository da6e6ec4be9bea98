use Rattle.std.proofs.Common.{rules}
use Rattle.cfm_sections.proofs.addresses.section_address.Goals as goal

pub returns-in-None : goal.returns-in-None
returns-in-None c = search rules
