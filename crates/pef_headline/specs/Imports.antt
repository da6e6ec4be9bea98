-- What the imports of a fragment are called, and where the search for their targets begins (docs/SCRIPTS.md, `library`
-- and `import`; PEFImportedSymbol and PEFImportedLibrary of PEFBinaryFormat.h).
use Rattle.std.specs.Prelude.{◌≡◌, ℕ, List, None, Ok, Some, length, slice_get}
use Rattle.std.specs.Result.{result_unwrap_or}
use Rattle.cfm_store.specs.Stores.{Pair}
use Rattle.cfm_closure.specs.Fragments.{Fragment, fragment_of}
use Rattle.cfm_closure.specs.Libraries.{bound}
use Rattle.cfm_closure.specs.Targets.{hop, hop_from}
use Rattle.pef_format.specs.Symbols.{Import, options_code}
use Rattle.pef_loader.specs.Library.{Library}
use Rattle.pef_loader.specs.Loader.{import_of, library_of}
use Rattle.pef_script.specs.Script.{DescribedLibrary, DescribedScript}

-- import j of this fragment, which is in place p, is this import of a script: it has its name, its class,
-- and whether it is weak. It is from the library that the script has it from, with the name, the versions and the options
-- of that library. Its target is what the fragment of that library exports under that name, or what that leads to
pub record IsImportOf (pairs : List Pair) (p : ℕ) (script : DescribedScript) (fragment : Fragment) (j : ℕ) (symbol : Import) : Type 0 where
  pub is : import_of fragment.loader j ≡ Some symbol
  pub described : DescribedLibrary
  pub from : slice_get script.libraries symbol.library ≡ Some described
  pub library : Library
  pub there : library_of fragment.loader symbol.library ≡ Some library
  pub name : library.name ≡ described.name
  pub current : library.fields.current ≡ described.current
  pub old_imp : library.fields.old_imp ≡ described.old_imp
  pub options : library.fields.options ≡ options_code described.options
  pub leads : hop pairs p j ≡ hop_from pairs p j symbol (result_unwrap_or (bound pairs fragment symbol.library library) None)

-- the bytes in place p are read as a fragment with the imports of a script, in their order, and no others
pub record HasImports (pairs : List Pair) (p : ℕ) (script : DescribedScript) : Type 0 where
  pub fragment : Fragment
  pub read : fragment_of pairs p ≡ Ok fragment
  pub count : fragment.loader.header.import_count ≡ length script.imports
  pub each : (j : ℕ) (symbol : Import) → slice_get script.imports j ≡ Some symbol → IsImportOf pairs p script fragment j symbol
