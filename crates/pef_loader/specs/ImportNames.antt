-- The import of a name, as export_named of `pef_hash` is the export of one (this project's own).
use Rattle.std.specs.Prelude.{ℕ, Bool, false, List, Option, None, Some, if◌then◌else◌}
use Rattle.std.specs.Option.{option_map_or}
use Rattle.std.specs.Str.{bytes_eq}
use Rattle.pef_words.specs.Refusals.{first_among}
use Rattle.pef_loader.specs.Loader.{Loaded, import_of}

-- whether import j has this name
abbrev pub is_import_named : Loaded → List ℕ → ℕ → Bool
is_import_named l name j = option_map_or (λ i. bytes_eq i.name name) (import_of l j) false

-- j, if import j has this name
abbrev pub import_named_at : Loaded → List ℕ → ℕ → Option ℕ
import_named_at l name j = if is_import_named l name j then Some j else None

-- the first import with a name
unfoldable pub named_import_of : Loaded → List ℕ → Option ℕ
named_import_of l name = first_among (import_named_at l name) 0 l.header.import_count
