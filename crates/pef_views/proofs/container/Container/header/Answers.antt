-- A container's counts were tested.
use Rattle.std.proofs.Common.{refl}
use Rattle.pef_views.specs.Views.{contained}
use Rattle.pef_views.proofs.Containers.{counts}
use Rattle.pef_views.proofs.container.Container.header.Goals as goal

pub returns-clause-counts : goal.returns-clause-counts
returns-clause-counts c = counts (contained c.args.self.now) c.args.self.now.accepted

pub returns-clause-value : goal.returns-clause-value
returns-clause-value c = refl
