-- Cursors over libraries.
use Rattle.std.specs.Prelude.{◌≡◌, ℕ, ◌<◌, List, false}
use Rattle.pef_loader.specs.declared.cursor.OwnerCursor.{OwnerCursor}
use Rattle.pef_loader.specs.Library.{owns}
use Rattle.pef_loader.specs.Kept.Ranges.{end_of, first_of}

-- a cursor keeps the imports of its library
pub record HasRange (bytes : List ℕ) (cursor : OwnerCursor) : Type 0 where
  pub start : cursor.imports.start ≡ first_of bytes cursor.library
  pub end : cursor.imports.end ≡ end_of bytes cursor.library

-- no library before library l has import j
abbrev pub AreWithout : List ℕ → ℕ → ℕ → Type 0
AreWithout bytes l j = (i : ℕ) → i < l → owns bytes j i ≡ false
