-- The values of views, without places in memory.
use Rattle.pef_views.specs.declared.container.Container.{Container}
use Rattle.pef_views.specs.declared.section.SectionView.{SectionView}
use Rattle.pef_views.specs.Container.{Contained, Section}

-- the container that a view shows
abbrev pub contained : Container → Contained
contained c = record { bytes = c.cut.bytes.now; header = c.header; loader = c.loader.now }

-- the section that a view shows
abbrev pub seen : SectionView → Section
seen s = record { header = s.header; raw = s.raw.now }
