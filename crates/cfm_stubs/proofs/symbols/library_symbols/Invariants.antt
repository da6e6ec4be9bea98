-- The symbols of the fragments so far, with those of the fragments that are left, are all symbols.
use Rattle.std.proofs.Common.{◌≡◌, drop, map}
use Rattle.std.specs.Prelude.{fold}
use Rattle.std.specs.List.{flat_map}
use Rattle.pef_loader.specs.Views.{loaded}
use Rattle.cfm_stubs.specs.Kept.Tables.{symbols_in}
use Rattle.cfm_stubs.specs.Symbols.{all_imports, imports_from, symbols_of, with_symbol}
use Rattle.cfm_stubs.proofs.symbols.library_symbols.Given as goal

abbrev pub invariant-loop-loader : goal.invariant-loop-loader
invariant-loop-loader l = fold with_symbol (symbols_in l.classes.entries) (flat_map (imports_from l.library) (map loaded (drop l.loader-index l.loaders))) ≡ symbols_of (all_imports (map loaded l.loaders) l.library)
