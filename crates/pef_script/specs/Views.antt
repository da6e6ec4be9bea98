-- The values that the views of a script's parts show, without places in memory.
use Rattle.pef_script.specs.declared.parts.SectionHeader.{SectionHeader}
use Rattle.pef_script.specs.declared.views.LibraryView.{LibraryView}
use Rattle.pef_script.specs.Script.{DescribedHeader, DescribedLibrary}

abbrev pub header_in : SectionHeader → DescribedHeader
header_in h = record { name = h.name.now; kind = h.kind; share = h.share; align = h.align; total = h.total }

abbrev pub library_in : LibraryView → DescribedLibrary
library_in v = record { name = v.name.now; current = v.current; old_imp = v.old_imp; options = v.options }
