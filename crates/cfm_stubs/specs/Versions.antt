-- The versions of a stub, which fit each entry for the library (docs/RULES.md, "Versions" and "Stubs").
use Rattle.std.specs.Prelude.{ℕ, zero, suc, ◌+◌, max, min, List, [], ◌∷◌, ◌++◌, Option, None, Some, fold, unwrap_or, if◌then◌else◌}
use Rattle.std.specs.List.{flat_map}
use Rattle.std.specs.Str.{bytes_eq}
use Rattle.pef_loader.specs.Library.{Library}
use Rattle.pef_loader.specs.Loader.{Loaded, library_of}
use Rattle.pef_script.specs.declared.parts.Versions.{Versions}

-- a library entry, if it is there and has this name
abbrev pub own_entry : List ℕ → Option Library → List Library
own_entry library None = []
own_entry library (Some l) = if bytes_eq l.name library then l ∷ [] else []

-- those with this name among the n entries from entry k on
abbrev pub own_entries : Loaded → List ℕ → ℕ → ℕ → List Library
own_entries l library k zero = []
own_entries l library k (suc n) = own_entry library (library_of l k) ++ own_entries l library (k + 1) n

-- all entries of a fragment with this name
abbrev pub entries_in : List ℕ → Loaded → List Library
entries_in library l = own_entries l library 0 l.header.library_count

-- .. and of some fragments, fragment by fragment
abbrev pub entries_of : List Loaded → List ℕ → List Library
entries_of loaders library = flat_map (entries_in library) loaders

-- versions that also serve one more entry: the current one is the newest, the oldest that is served is the oldest, and the
-- oldest implementation that is accepted is the newest of these
abbrev pub served : Versions → Library → Versions
served v l = record { current = max v.current l.fields.current; old_def = min v.old_def l.fields.current; old_imp = max v.old_imp l.fields.old_imp }

-- .. if there was none before: its own
abbrev pub noted : Option Versions → Library → Option Versions
noted None l = Some (record { current = l.fields.current; old_def = l.fields.current; old_imp = l.fields.old_imp })
noted (Some v) l = Some (served v l)

-- the versions that serve all of some entries; zeros if there is none
abbrev pub versions_for : List Library → Versions
versions_for entries = unwrap_or (fold noted None entries) (record { current = 0; old_def = 0; old_imp = 0 })

-- the versions that serve all entries of some fragments for a library
unfoldable pub library_versions : List Loaded → List ℕ → Versions
library_versions loaders library = versions_for (entries_of loaders library)
