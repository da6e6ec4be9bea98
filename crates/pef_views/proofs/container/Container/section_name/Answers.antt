use Rattle.std.proofs.Common.{rules}
use Rattle.pef_views.proofs.container.Container.section_name.Goals as goal

pub returns : goal.returns
returns c = search rules
