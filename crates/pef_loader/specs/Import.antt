-- Imported symbols (Mac OS Runtime Architectures, "PEF Structure", "Imported Symbol Table";
-- PEFImportedSymbol of PEFBinaryFormat.h).
use Rattle.std.specs.Prelude.{ℕ, ◌+◌, ◌/◌, ◌%◌, ◌^◌, ◌==◌, Bool, List, [], ◌∷◌, Option, Some, None, nat_lt, if◌then◌else◌}
use Rattle.std.specs.Option.{is_none, option_map_or}
use Rattle.pef_words.specs.Bytes.{name_at, number_at}
use Rattle.pef_format.specs.Symbols.{Import}
use Rattle.pef_words.specs.Refusals.{◌>>=◌, first_among, first_met}
use Rattle.pef_loader.specs.declared.header.LoaderHeader.{LoaderHeader}
use Rattle.pef_format.specs.declared.import.ImportFields.{ImportFields}
use Rattle.pef_format.specs.declared.named.Named.{Named}
use Rattle.pef_loader.specs.declared.fault.LoaderFault.{LoaderFault}
use Rattle.pef_loader.specs.declared.fault.LoaderFault.TheVariants.{BadTableOffset, BadName, OrphanImport}
use Rattle.pef_loader.specs.declared.fault.NamedRow.TheVariants as row
use Rattle.pef_loader.specs.Header.{import_place}
use Rattle.pef_loader.specs.Library.{owns}

-- an import, and where its name begins among the names
abbrev pub ImportEntry : Type 0
ImportEntry = Named ImportFields ℕ

-- import j: a class byte, whose high bit says that the symbol may be missing, and a name offset of 24 bits. None if
-- it passes the end
unfoldable pub import_at : List ℕ → LoaderHeader → ℕ → Option ImportEntry
import_at bytes h j = do
  word ← number_at 4 bytes (import_place h j)
  Some (record { fields = record { class = word / 2 ^ 24 % 16; weak = word / 2 ^ 31 == 1 }; name = word % 2 ^ 24 })

-- i, if library i has import j
abbrev pub owner_at : List ℕ → ℕ → ℕ → Option ℕ
owner_at bytes j i = if owns bytes j i then Some i else None

-- the first library that has import j
abbrev pub owner_of : List ℕ → LoaderHeader → ℕ → Option ℕ
owner_of bytes h j = first_among (owner_at bytes j) 0 h.library_count

-- the tests of import j, in order
unfoldable pub import_tests : List ℕ → LoaderHeader → ℕ → ImportEntry → List (Bool × LoaderFault)
import_tests bytes h j e = (is_none (name_at bytes (h.strings_offset + e.name)), BadName (row.Import j))
    ∷ (is_none (owner_of bytes h j), OrphanImport j)
    ∷ []

-- the refusal of import j
abbrev pub import_refusal : List ℕ → LoaderHeader → ℕ → Option LoaderFault
import_refusal bytes h j = option_map_or (λ e. first_met (import_tests bytes h j e)) (import_at bytes h j) (Some BadTableOffset)

-- import j with its name and its first library
unfoldable pub import_in : List ℕ → LoaderHeader → ℕ → Option Import
import_in bytes h j = if nat_lt j h.import_count then (do
  e ← import_at bytes h j
  name ← name_at bytes (h.strings_offset + e.name)
  owner ← owner_of bytes h j
  Some (record { fields = e.fields; name = name; library = owner })) else None
