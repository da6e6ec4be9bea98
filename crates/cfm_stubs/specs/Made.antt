-- Stubs that are made for the fragments of a store (docs/RULES.md, "Stubs").
use Rattle.std.specs.Prelude.{◌≡◌, ℕ, ◌+◌, Bool, true, List, [], ◌∷◌, Some, Ok, slice_get, if◌then◌else◌}
use Rattle.std.specs.Option.{option_and_then}
use Rattle.std.specs.Str.{bytes_eq}
use Rattle.pef_format.specs.Exports.{Export}
use Rattle.pef_loader.specs.Library.{Library}
use Rattle.pef_loader.specs.Loader.{Loaded, export_of, library_of, named_of}
use Rattle.pef_script.specs.Script.{DescribedScript}
use Rattle.pef_write.specs.Linked.{IsLinked, LinkedContainer}
use Rattle.cfm_store.specs.Stores.{Pair, pair_of}
use Rattle.cfm_closure.specs.Fragments.{Fragment, fragment_of}
use Rattle.cfm_closure.specs.Promises.{AllRead}
use Rattle.cfm_stubs.specs.Stubbed.{HasLibrary}
use Rattle.cfm_stubs.specs.Stubs.{exports_from}
use Rattle.cfm_stubs.specs.Symbols.{Symbol, library_symbols}
use Rattle.cfm_stubs.specs.Versions.{library_versions}

-- the number of the symbol with a name; 0 if there is none
abbrev pub number_in : ℕ → ℕ → List Symbol → List ℕ → ℕ
number_in value step [] name = 0
number_in value step (s ∷ symbols) name = if bytes_eq name s.name then value else number_in (value + step) step symbols name

-- a loader section is one of some
pub record IsAmong (loaders : List Loaded) (l : Loaded) : Type 0 where
  pub index : ℕ
  pub there : slice_get loaders index ≡ Some l

-- the fragment in a place was made as a stub for these loader sections, with numbers from a first one on: it has the versions for
-- its name, and each of the exports is found by its name
pub record IsMade (pairs : List Pair) (loaders : List Loaded) (first step q : ℕ) : Type 0 where
  pub fragment : Fragment
  pub read : fragment_of pairs q ≡ Ok fragment
  pub current : fragment.container.header.current_version ≡ (library_versions loaders (pair_of pairs q).name).current
  pub old_def : fragment.container.header.old_def_version ≡ (library_versions loaders (pair_of pairs q).name).old_def
  pub named : (k : ℕ) (x : Export) → slice_get (exports_from first step (library_symbols loaders (pair_of pairs q).name)) k ≡ Some x → option_and_then (export_of fragment.loader) (named_of fragment.loader x.name) ≡ Some x

-- a store whose fragments are all read, with a fragment for each library entry that isn't weak. Those in some places are stubs, made
-- for the loader sections that have entries; each has a first number and a step
pub record HasMade (pairs : List Pair) (loaders : List Loaded) (stub : ℕ → Bool) (first : ℕ → ℕ) (step : ℕ) : Type 0 where
  pub read : AllRead pairs
  pub among : (p k : ℕ) (f : Fragment) (l : Library) → fragment_of pairs p ≡ Ok f → library_of f.loader k ≡ Some l → IsAmong loaders f.loader
  pub found : (p k : ℕ) (f : Fragment) (l : Library) → fragment_of pairs p ≡ Ok f → library_of f.loader k ≡ Some l → HasLibrary pairs l
  pub stubs : (q : ℕ) → stub q ≡ true → IsMade pairs loaders (first q) step q

-- the pair in a place has the container of a script, with the versions for its name and with these exports
pub record IsLinkedStub (pairs : List Pair) (loaders : List Loaded) (first step q : ℕ) : Type 0 where
  pub script : DescribedScript
  pub container : LinkedContainer
  pub linked : IsLinked script container
  pub bytes : (pair_of pairs q).bytes ≡ container.bytes
  pub versions : script.versions ≡ library_versions loaders (pair_of pairs q).name
  pub exports : script.exports ≡ exports_from first step (library_symbols loaders (pair_of pairs q).name)
