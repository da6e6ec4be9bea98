-- What the codes of symbols and libraries mean (PEFImportedSymbol, PEFExportedSymbol and
-- PEFImportedLibrary, in PEFBinaryFormat.h; Mac OS Runtime Architectures, "PEF Structure").
use Rattle.std.specs.Prelude.{ℕ, ◌+◌, ◌==◌, not, bit_and, Bool, List, if◌then◌else◌, nat_le}
use Rattle.std.specs.Borrow.{Bor}
use Rattle.pef_format.specs.declared.import.Imported.{Imported}
use Rattle.pef_format.specs.declared.symbol.LibraryOptions.{LibraryOptions}
use Rattle.pef_format.specs.declared.symbol.SymbolClass.{SymbolClass}
use Rattle.pef_format.specs.declared.symbol.SymbolClass.TheVariants.{Code, Data, TransitionVector, Toc, Glue}
use Rattle.pef_format.specs.declared.symbol.SymbolClass.TheVariants as class

-- the code of a class (kPEFCodeSymbol and the four after it)
abbrev pub class_code : SymbolClass → ℕ
class_code Code = 0
class_code Data = 1
class_code TransitionVector = 2
class_code Toc = 3
class_code Glue = 4
class_code (class.Other code) = code

-- the class with a code
unfoldable pub class_of : ℕ → SymbolClass
class_of code =
    if code == 0 then Code
    else if code == 1 then Data
    else if code == 2 then TransitionVector
    else if code == 3 then Toc
    else if code == 4 then Glue
    else class.Other code

-- the codes of the classes that the format names
abbrev pub is_class : ℕ → Bool
is_class code = nat_le code 4

-- the byte of a library's options (kPEFInitLibBeforeMask, kPEFWeakImportLibMask)
abbrev pub options_code : LibraryOptions → ℕ
options_code o = (if o.init_before then 0x80 else 0) + (if o.weak then 0x40 else 0)

-- the options in a byte
unfoldable pub options_of : ℕ → LibraryOptions
options_of code = record {
  init_before = not (bit_and code 0x80 == 0);
  weak = not (bit_and code 0x40 == 0);
}

-- an imported symbol, of a library by its number
abbrev pub Import : Type 0
Import = Imported (List ℕ) ℕ

-- a view of an imported symbol
abbrev pub ImportView : Type 0
ImportView = Imported (Bor (List ℕ)) ℕ

-- an imported symbol with another kind of name
abbrev pub import_named : {A B L : Type 0} → (A → B) → Imported A L → Imported B L
import_named f import = record { fields = import.fields; name = f import.name; library = import.library }

-- the symbol that a view shows
abbrev pub import_seen : ImportView → Import
import_seen v = import_named (λ name. name.now) v
