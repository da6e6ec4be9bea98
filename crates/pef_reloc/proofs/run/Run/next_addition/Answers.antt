-- The first addition of each kind of run.
use Rattle.std.proofs.Common.{◌≤◌, arith}
use Rattle.pef_reloc.proofs.RunLemmas.{numbered-first, pairs-first, pairs-second, row-first, run-end}
use Rattle.pef_reloc.proofs.run.Run.next_addition.Goals as goal

pub returns-then-self-eq0 : goal.returns-then-self-eq0
returns-then-self-eq0 c = let none = run-end _ _ c.if-self-eq0.true in (none, none)

pub returns-in-Section : goal.returns-in-Section
returns-in-Section c =
    let some : 1 ≤ c.args.self.now.row.count = omega (arith, c.if-self-eq0.false) in
    rw (c.in-Section.is, c.pass.ensures.added, c.pass.ensures.row) (row-first _ _ _ _ some)

pub returns-in-Pairs : goal.returns-in-Pairs
returns-in-Pairs c =
    let some : 1 ≤ c.args.self.now.row.count = omega (arith, c.if-self-eq0.false) in
    rw (c.in-Pairs.is) (pairs-first _ _ _ _ _ some)

pub returns-in-Seconds : goal.returns-in-Seconds
returns-in-Seconds c =
    let some : 1 ≤ c.args.self.now.row.count = omega (arith, c.if-self-eq0.false) in
    rw (c.in-Seconds.is, c.pass-in-Seconds.ensures.added, c.pass-in-Seconds.ensures.row) (pairs-second _ _ _ _ _ some)

pub returns-in-Imports : goal.returns-in-Imports
returns-in-Imports c =
    let some : 1 ≤ c.args.self.now.row.count = omega (arith, c.if-self-eq0.false) in
    rw (c.in-Imports.is, c.pass-in-Imports.ensures.added, c.pass-in-Imports.ensures.row) (numbered-first _ _ _ some)
