use Rattle.std.proofs.Common.{rules}
use Rattle.pef_views.proofs.container.Container.raw.Goals as goal

pub returns-clause-value : goal.returns-clause-value
returns-clause-value c = search rules

pub returns-clause-there : goal.returns-clause-there
returns-clause-there c = search rules
