-- A container that has nothing but absolute exports: no sections besides its loader section, no libraries, and no imports. Their
-- names may be any bytes. All exports are in one slot of the export table, in their order (Mac OS Runtime Architectures, "PEF
-- Structure"; that there is one slot is this project's own choice).
use Rattle.std.specs.Prelude.{◌≡◌, ◌≢◌, ℕ, ◌^◌, ◌<◌, List, [], ◌∷◌, None, Ok, Some, length, map, slice_get}
use Rattle.std.specs.List.{AllByRecursion, sum_by}
use Rattle.pef_format.specs.Exports.{Export, absolute_export}
use Rattle.pef_hash.specs.Exports.{slot_word}
use Rattle.pef_hash.specs.Word.{hash_word}
use Rattle.pef_loader.specs.Loader.{Loaded, export_of, loaded_of, named_of}
use Rattle.pef_script.specs.declared.parts.Versions.{Versions}
use Rattle.pef_views.specs.Container.{Contained, container_of}
use Rattle.pef_write.specs.Containers.{written_container, written_header}
use Rattle.pef_write.specs.Loaders.{LoaderTables, written_loader}

-- an absolute export that a container can have: its key has the length of its name in 16 bits, and its class has four
pub record NumberFits (e : Export) : Type 0 where
  pub name : length e.name < 2 ^ 16
  pub class : e.fields.class < 16
  pub section : e.fields.section ≡ absolute_export
  pub value : e.fields.value < 2 ^ 32

-- exports that a container can have together: a slot counts them in 14 bits, and the place of a name has 24
pub record NumbersFit (exports : List Export) : Type 0 where
  pub count : length exports < 2 ^ 14
  pub each : AllByRecursion NumberFits exports
  pub names : sum_by (λ e. length e.name) exports < 2 ^ 24

-- the tables of the loader section
unfoldable pub export_tables : List Export → LoaderTables
export_tables exports = record {
  main = None;
  init = None;
  term = None;
  libraries = [];
  imports = [];
  programs = [];
  power = 0;
  slots = slot_word (length exports) 0 ∷ [];
  keys = map (λ e. hash_word e.name) exports;
  exports = exports;
}

unfoldable pub exports_loader : List Export → List ℕ
exports_loader exports = written_loader (export_tables exports)

-- the container
unfoldable pub exports_container : Versions → List Export → List ℕ
exports_container v exports = written_container v [] (exports_loader exports)

-- such a container is read back: it has these versions and nothing else than these exports, and the first export with a name is
-- found by it
pub record HasExports (v : Versions) (exports : List Export) (bytes : List ℕ) : Type 0 where
  pub container : Contained
  pub loader : Loaded
  pub read : container_of bytes ≡ Ok container
  pub loaded : loaded_of container.header.instantiated_section_count container.loader ≡ Ok loader
  pub header : container.header ≡ written_header v 0
  pub library_count : loader.header.library_count ≡ 0
  pub import_count : loader.header.import_count ≡ 0
  pub reloc_count : loader.header.reloc_count ≡ 0
  pub rows : (k : ℕ) → export_of loader k ≡ slice_get exports k
  pub named : (k : ℕ) (e : Export) → slice_get exports k ≡ Some e → ((j : ℕ) (x : Export) → j < k → slice_get exports j ≡ Some x → x.name ≢ e.name) → named_of loader e.name ≡ Some k
