-- No library that was passed has the import.
use Rattle.std.proofs.Common.{◌-◌}
use Rattle.pef_loader.specs.Kept.Cursors.{AreWithout, HasRange}
use Rattle.pef_loader.proofs.cursor.OwnerCursor.advance.Given as goal

abbrev pub invariant-loop-self : goal.invariant-loop-self
invariant-loop-self l = record {
  range : HasRange l.tables.cut.bytes.now l.self;
  passed : AreWithout l.tables.cut.bytes.now l.self.library l.j;
}

abbrev pub decreases-loop-self : goal.decreases-loop-self
decreases-loop-self l = l.count - l.self.library
