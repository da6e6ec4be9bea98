-- Imports are in the order of their libraries, so the imports passed are all that are counted.
use Rattle.std.proofs.Common.{◌+◌, ◌<◌, ◌≤◌, sym, arith}
use Rattle.std.proofs.lemmas.Option.{slice_get_within}
use Rattle.pef_write.proofs.Counts.{counted-found, past-all, past-found}
use Rattle.pef_write.proofs.entries.imports_end.Goals as goal

pub overflow_add-end : goal.overflow_add-end
overflow_add-end c =
    let under = slice_get_within c.args.script.now.imports c.imports.end _ (sym c.in-Some.ensures) in
    omega (arith, under, c.requires.holds.imports.count)

pub imports-smaller : goal.imports-smaller
imports-smaller c =
    let under = slice_get_within c.args.script.now.imports c.imports.end _ (sym c.in-Some.ensures) in
    omega (arith, under)

pub imports-preserved : goal.imports-preserved
imports-preserved c =
    let early : c.in-Some.import.library < c.args.l + 1 = omega (arith, c.if-import-l.false) in
    counted-found (c.args.l + 1) c.args.script.now.imports c.imports.end _ c.requires.holds.imports.grouped (sym c.in-Some.ensures) early

pub returns-then-import-l : goal.returns-then-import-l
returns-then-import-l c =
    let late : c.args.l + 1 ≤ c.in-Some.import.library = omega (arith, c.if-import-l.true) in
    omega (arith, c.imports.invariant, past-found (c.args.l + 1) c.args.script.now.imports c.imports.end _ c.requires.holds.imports.grouped (sym c.in-Some.ensures) late)

pub returns-in_default : goal.returns-in_default
returns-in_default c =
    omega (arith, c.imports.invariant, past-all (c.args.l + 1) c.args.script.now.imports c.imports.end (sym c.in_default.ensures))
