-- What is left decides, and the cursor has the imports of its library.
use Rattle.std.proofs.Common.{◌≡◌, ◌-◌}
use Rattle.pef_words.specs.Refusals.{first_among}
use Rattle.pef_loader.specs.Import.{import_refusal}
use Rattle.pef_loader.specs.Kept.Cursors.{HasRange}
use Rattle.pef_loader.proofs.tables.test_imports_in_order.Given as goal

abbrev pub invariant-loop-j : goal.invariant-loop-j
invariant-loop-j l = record {
  left : first_among (import_refusal l.tables.cut.bytes.now l.tables.header) l.j (l.tables.header.import_count - l.j)
      ≡ first_among (import_refusal l.tables.cut.bytes.now l.tables.header) 0 l.tables.header.import_count;
  range : HasRange l.tables.cut.bytes.now l.owners;
}
