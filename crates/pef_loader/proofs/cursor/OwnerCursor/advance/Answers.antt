-- The first library with the import is found, or none has it.
use Rattle.std.proofs.Common.{◌≡◌, true, sym, rules, arith}
use Rattle.pef_loader.specs.Library.{owns}
use Rattle.pef_loader.proofs.RangeLemmas.{owner_first, owner_none}
use Rattle.pef_loader.proofs.cursor.OwnerCursor.advance.Goals as goal

pub returns-then-contains-clause-value : goal.returns-then-contains-clause-value
returns-then-contains-clause-value c =
    let has : owns c.args.tables.cut.bytes.now c.args.j c.loop-self.self.library ≡ true = search rules in
    sym (owner_first c.args.tables.cut.bytes.now c.args.tables.header c.args.j c.loop-self.self.library c.loop-self.invariant.passed c.loop-self-test.true has)

pub returns-clause-value : goal.returns-clause-value
returns-clause-value c = sym (owner_none c.args.tables.cut.bytes.now c.args.tables.header c.args.j c.loop-self.self.library c.loop-self.invariant.passed (omega arith))
