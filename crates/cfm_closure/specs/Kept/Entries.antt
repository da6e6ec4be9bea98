-- Library entries by their names.
use Rattle.std.specs.Prelude.{◌≡◌, ℕ, List, Some}
use Rattle.pef_loader.specs.Library.{Library}
use Rattle.pef_loader.specs.Loader.{Loaded, library_of}

-- a loader section has an entry with a name
pub record HasEntry (loader : Loaded) (name : List ℕ) : Type 0 where
  pub index : ℕ
  pub library : Library
  pub entry : library_of loader index ≡ Some library
  pub named : library.name ≡ name
