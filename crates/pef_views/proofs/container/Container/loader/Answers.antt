use Rattle.std.proofs.Common.{rules}
use Rattle.pef_views.proofs.container.Container.loader.Goals as goal

pub returns : goal.returns
returns c = search rules
