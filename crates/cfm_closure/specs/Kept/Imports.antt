-- The imports of a loader section, read all together.
use Rattle.std.specs.Prelude.{◌≡◌, ℕ, ◌<◌, List, Some, slice_get}
use Rattle.pef_format.specs.Symbols.{ImportView, import_seen}
use Rattle.pef_loader.specs.Loader.{Loaded, import_of}

-- each view is that of the import with its index, and has one of the libraries
pub record AreImports (l : Loaded) (imports : List ImportView) : Type 0 where
  pub seen : (j : ℕ) (v : ImportView) → slice_get imports j ≡ Some v → import_of l j ≡ Some (import_seen v)
  pub library : (j : ℕ) (v : ImportView) → slice_get imports j ≡ Some v → v.library < l.header.library_count
