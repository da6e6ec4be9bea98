-- The imports before this one were read.
use Rattle.std.proofs.Common.{◌≡◌, length}
use Rattle.pef_loader.specs.Views.{loaded}
use Rattle.cfm_closure.specs.Kept.Imports.{AreImports}
use Rattle.cfm_closure.proofs.import_table.ImportTable.read.Given as goal

abbrev pub invariant-loop-j : goal.invariant-loop-j
invariant-loop-j l = record {
  same : l.reader.loader ≡ l.loader;
  all : length l.imports.items ≡ l.j;
  read : AreImports (loaded l.loader) l.imports.items;
}
