use Rattle.std.proofs.Common.{rules}
use Rattle.pef_reloc.proofs.machine.Machine.import_word.Goals as goal

pub returns-clause-after : goal.returns-clause-after
returns-clause-after c = search rules
