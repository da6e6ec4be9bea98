-- Imported libraries (Mac OS Runtime Architectures, "PEF Structure", "Imported Library Table";
-- PEFImportedLibrary of PEFBinaryFormat.h).
use Rattle.std.specs.Prelude.{ℕ, ◌+◌, Bool, false, List, [], ◌∷◌, Option, Some, None, nat_lt, nat_le, ◌&&◌, if◌then◌else◌}
use Rattle.std.specs.Option.{is_none, option_map_or}
use Rattle.pef_words.specs.Bytes.{name_at, number_at}
use Rattle.pef_words.specs.Refusals.{◌>>=◌, first_met}
use Rattle.pef_loader.specs.declared.header.LoaderHeader.{LoaderHeader}
use Rattle.pef_format.specs.declared.library.LibraryFields.{LibraryFields}
use Rattle.pef_format.specs.declared.named.Named.{Named}
use Rattle.pef_loader.specs.declared.fault.LoaderFault.{LoaderFault}
use Rattle.pef_loader.specs.declared.fault.LoaderFault.TheVariants.{BadTableOffset, BadName, BadLibraryRange}
use Rattle.pef_loader.specs.declared.fault.NamedRow.TheVariants as row
use Rattle.pef_loader.specs.Header.{library_place}

-- a library, and where its name begins among the names
abbrev pub LibraryEntry : Type 0
LibraryEntry = Named LibraryFields ℕ

-- library i, or none if it passes the end
unfoldable pub library_at : List ℕ → ℕ → Option LibraryEntry
library_at bytes i = do
  name ← number_at 4 bytes (library_place i)
  old_imp ← number_at 4 bytes (library_place i + 4)
  current ← number_at 4 bytes (library_place i + 8)
  count ← number_at 4 bytes (library_place i + 12)
  first ← number_at 4 bytes (library_place i + 16)
  options ← number_at 1 bytes (library_place i + 20)
  Some (record { fields = record { current = current; old_imp = old_imp; count = count; first = first; options = options }; name = name })

-- the tests of library i, in order
unfoldable pub library_tests : List ℕ → LoaderHeader → ℕ → LibraryEntry → List (Bool × LoaderFault)
library_tests bytes h i e = (is_none (name_at bytes (h.strings_offset + e.name)), BadName (row.Library i))
    ∷ (nat_lt h.import_count (e.fields.first + e.fields.count), BadLibraryRange i)
    ∷ []

-- the refusal of library i
abbrev pub library_refusal : List ℕ → LoaderHeader → ℕ → Option LoaderFault
library_refusal bytes h i = option_map_or (λ e. first_met (library_tests bytes h i e)) (library_at bytes i) (Some BadTableOffset)

-- import j is one of library i's
abbrev pub owns : List ℕ → ℕ → ℕ → Bool
owns bytes j i = option_map_or (λ e. nat_le e.fields.first j && nat_lt j (e.fields.first + e.fields.count)) (library_at bytes i) false

-- a library with its name
abbrev pub Library : Type 0
Library = Named LibraryFields (List ℕ)

-- library i with its name
unfoldable pub library_in : List ℕ → LoaderHeader → ℕ → Option Library
library_in bytes h i = if nat_lt i h.library_count then (do
  e ← library_at bytes i
  name ← name_at bytes (h.strings_offset + e.name)
  Some (record { fields = e.fields; name = name })) else None
