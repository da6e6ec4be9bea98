-- The loader section that was read is the one whose header is given.
use Rattle.std.proofs.Common.{◌∙◌, ap}
use Rattle.pef_loader.specs.Views.{loaded}
use Rattle.pef_records.specs.Containers.Loaders.{loader_given}
use Rattle.pef_c.proofs.containers.loader.pef_loader.Goals as goal

pub returns : goal.returns
returns c = (loaded c.in-Ok.loader, c.in-Ok.ensures.reads, c.loader_given.ensures ∙ ap loader_given c.header-header.ensures)
