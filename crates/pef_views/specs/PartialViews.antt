-- The value of a view of a container that may be damaged, without places in memory.
use Rattle.pef_views.specs.declared.partial.PartialContainer.{PartialContainer}
use Rattle.pef_views.specs.Container.{Contained}
use Rattle.pef_views.specs.Partial.{opened}

-- what such a view shows
abbrev pub partly : PartialContainer → Contained
partly p = opened p.cut.bytes.now p.header
