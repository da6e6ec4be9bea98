-- What the parts of a container that may be damaged show, without places in memory.
use Rattle.pef_views.specs.Container.{Contained}
use Rattle.pef_views.specs.PartialViews.{partly}
use Rattle.pef_inspect.specs.declared.parts.Parts.{Parts}

-- the container
abbrev pub parted : Parts → Contained
parted p = partly p.container
