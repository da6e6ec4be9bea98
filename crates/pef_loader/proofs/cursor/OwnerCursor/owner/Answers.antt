-- The cursor went back to the first library, or no library before its own has the import.
use Rattle.std.proofs.Common.{◌≡◌, ◌≤◌, ◌∙◌, ap, arith}
use Rattle.pef_loader.specs.Kept.Ranges.{first_of}
use Rattle.pef_loader.proofs.RangeLemmas.{none_before}
use Rattle.pef_loader.proofs.cursor.OwnerCursor.owner.Goals.{then-self-tables, else-self-tables+else-j-self}
use Rattle.pef_loader.proofs.cursor.OwnerCursor.owner.Goals as goal

pub advance-requires-clause-passed : goal.advance-requires-clause-passed
advance-requires-clause-passed c =
    elim c.if-self-tables.branch [
      | then-self-tables w ↦ λ i before. (let first : c.if-self-tables.self.library ≡ 0 = ap (λ s. s.library) w.self-is ∙ w.new.ensures.first in absurd (omega arith))
      | else-self-tables+else-j-self w ↦ λ i before. (
          let bytes = c.args.tables.cut.bytes.now in
          let old = c.args.self.now.library in
          let same : c.if-self-tables.self.library ≡ old = ap (λ s. s.library) w.self-is in
          let begins : first_of bytes old ≤ c.args.j = rw (← c.requires.range.start) w.if-j-self.false in
          none_before bytes c.args.tables.header.library_count old c.args.j (c.requires.order (omega arith)) w.if-self-tables.false begins i (omega arith))
    ]
