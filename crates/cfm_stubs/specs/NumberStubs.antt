-- Stubs whose symbols are numbers (docs/RULES.md, "Stubs").
use Rattle.std.specs.Prelude.{◌+◌, ◌*◌, ℕ, List, [], ◌∷◌, Option, None, length}
use Rattle.std.specs.Option.{option_or}
use Rattle.pef_format.specs.Exports.{Export}
use Rattle.pef_loader.specs.Loader.{Loaded}
use Rattle.pef_write.specs.ExportContainers.{HasExports, exports_container}
use Rattle.cfm_stubs.specs.declared.fault.StubFault.{StubFault}
use Rattle.cfm_stubs.specs.Stubs.{exports_from, stub_refusal}
use Rattle.cfm_stubs.specs.Symbols.{library_symbols}
use Rattle.cfm_stubs.specs.Versions.{library_versions}

-- a stub: its library's name, its exports in order, and its container
pub record MadeStub : Type 0 where
  pub name : List ℕ
  pub exports : List Export
  pub bytes : List ℕ

-- the exports of the stub of a library for some fragments, with numbers from a first one on, a step apart
abbrev pub number_exports : List Loaded → ℕ → ℕ → List ℕ → List Export
number_exports loaders first step library = exports_from first step (library_symbols loaders library)

-- the stub: its container has the versions that fit each entry, no sections but its loader section, and these exports
unfoldable pub number_stub : List Loaded → ℕ → ℕ → List ℕ → MadeStub
number_stub loaders first step library = record {
  name = library;
  exports = number_exports loaders first step library;
  bytes = exports_container (library_versions loaders library) (number_exports loaders first step library);
}

-- its container is read with the versions that fit each entry, and with its exports
abbrev pub IsReadStub : List Loaded → MadeStub → Type 0
IsReadStub loaders made = HasExports (library_versions loaders made.name) made.exports made.bytes

-- why there is none
abbrev pub number_refusal : List Loaded → ℕ → ℕ → List ℕ → Option StubFault
number_refusal loaders first step library = stub_refusal first step (library_symbols loaders library)

-- the first number after those of a stub
abbrev pub number_after : List Loaded → ℕ → ℕ → List ℕ → ℕ
number_after loaders first step library = first + step * length (library_symbols loaders library)

-- the stubs of some libraries, in their order. Each one's numbers go on from those of the stub before it
unfoldable pub number_stubs : List Loaded → ℕ → ℕ → List (List ℕ) → List MadeStub
number_stubs loaders first step [] = []
number_stubs loaders first step (library ∷ libraries) = number_stub loaders first step library ∷ number_stubs loaders (number_after loaders first step library) step libraries

-- the first reason why there are none
unfoldable pub number_refusals : List Loaded → ℕ → ℕ → List (List ℕ) → Option StubFault
number_refusals loaders first step [] = None
number_refusals loaders first step (library ∷ libraries) =
    option_or (number_refusal loaders first step library) (number_refusals loaders (number_after loaders first step library) step libraries)
