-- What the views show of a loader section, without addresses in memory.
use Rattle.std.specs.Prelude.{ℕ, List}
use Rattle.std.specs.Borrow.{Bor}
use Rattle.pef_loader.specs.declared.tables.Loader.{Loader}
use Rattle.pef_format.specs.Rows.{named}
use Rattle.pef_format.specs.declared.library.LibraryFields.{LibraryFields}
use Rattle.pef_format.specs.declared.named.Named.{Named}
use Rattle.pef_loader.specs.Library.{Library}
use Rattle.pef_loader.specs.Loader.{Loaded}

-- the loader section that a view shows
abbrev pub loaded : Loader → Loaded
loaded l = record { sections = l.sections; bytes = l.tables.cut.bytes.now; header = l.tables.header }

abbrev pub library_seen : Named LibraryFields (Bor (List ℕ)) → Library
library_seen v = named (λ name. name.now) v

abbrev pub reloc_seen : ℕ × Bor (List ℕ) → ℕ × List ℕ
reloc_seen r = (r.0, r.1.now)
