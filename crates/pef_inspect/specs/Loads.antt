-- What can be read of the loader section of a container that may be damaged.
use Rattle.std.specs.Prelude.{Option}
use Rattle.std.specs.Result.{result_ok}
use Rattle.pef_views.specs.Container.{Contained}
use Rattle.pef_views.specs.Partial.{sections_allowed}
use Rattle.pef_loader.specs.Loader.{Loaded}
use Rattle.pef_loader.specs.Partial.{partial_of}

-- the loader section, if it has a header
abbrev pub loader_in : Contained → Option Loaded
loader_in c = result_ok (partial_of (sections_allowed c) c.loader)
