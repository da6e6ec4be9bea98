-- What is left decides, and the block says the owners of its imports.
use Rattle.std.proofs.Common.{◌≡◌, ◌-◌}
use Rattle.pef_words.specs.Refusals.{first_among}
use Rattle.pef_loader.specs.Import.{import_refusal}
use Rattle.pef_loader.specs.Kept.Blocks.{AreOwnersIf}
use Rattle.pef_loader.proofs.tables.test_imports_by_blocks.Given as goal

abbrev pub invariant-loop-j : goal.invariant-loop-j
invariant-loop-j l = record {
  left : first_among (import_refusal l.tables.cut.bytes.now l.tables.header) l.j (l.tables.header.import_count - l.j)
      ≡ first_among (import_refusal l.tables.cut.bytes.now l.tables.header) 0 l.tables.header.import_count;
  owners : AreOwnersIf l.owners.painted l.tables.cut.bytes.now l.tables.header l.owners.from l.owners.cells;
}
