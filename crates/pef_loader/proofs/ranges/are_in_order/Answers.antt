-- A range that begins before the last one ends doesn't follow it.
use Rattle.pef_loader.proofs.RangeLemmas.{out_of_order}
use Rattle.pef_loader.proofs.ranges.are_in_order.Goals as goal
use Rattle.std.proofs.Common.{arith}

pub returns-then-imports-end : goal.returns-then-imports-end
returns-then-imports-end c =
    let invariant = c.loop-i.invariant in (
      (λ no. absurd (cc)),
      (λ order. absurd (out_of_order c.args.tables.cut.bytes.now c.args.tables.header.library_count c.loop-i.i _ c.loop-i.end (omega arith) c.imports_of-imports.ensures.start c.if-imports-end.true invariant.none invariant.last order)),
    )
