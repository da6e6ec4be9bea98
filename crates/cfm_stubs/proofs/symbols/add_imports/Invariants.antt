-- The symbols so far, with those of the imports that are left, are those of all imports of the fragment.
use Rattle.std.proofs.Common.{◌≡◌, ◌-◌}
use Rattle.std.specs.Prelude.{fold}
use Rattle.pef_loader.specs.Views.{loaded}
use Rattle.cfm_stubs.specs.Kept.Tables.{symbols_in}
use Rattle.cfm_stubs.specs.Symbols.{imports_from, own_imports, with_symbol}
use Rattle.cfm_stubs.proofs.symbols.add_imports.Given as goal

abbrev pub invariant-loop-j : goal.invariant-loop-j
invariant-loop-j l = fold with_symbol (symbols_in l.classes.entries) (own_imports (loaded l.loader) l.library l.j ((loaded l.loader).header.import_count - l.j))
    ≡ fold with_symbol (symbols_in l.fn.classes.entries) (imports_from l.library (loaded l.loader))
