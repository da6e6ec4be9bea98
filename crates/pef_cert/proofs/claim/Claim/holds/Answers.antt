use Rattle.std.proofs.Common.{arith, rules}
use Rattle.pef_reloc.proofs.Laws.{count-length}
use Rattle.pef_cert.specs.Kept.Claims.{labels_claimed}
use Rattle.pef_cert.proofs.CheckLemmas.{too-long}
use Rattle.pef_cert.proofs.ClassLemmas.{class_of-below}
use Rattle.pef_cert.proofs.SweepLemmas.{row-exists, row-first}
use Rattle.pef_cert.proofs.claim.Claim.holds.Goals as goal

pub label-requires-clause-row : goal.label-requires-clause-row
label-requires-clause-row c = row-exists c.args.self c.requires

pub label-requires-clause-c : goal.label-requires-clause-c
label-requires-clause-c c = let low = class_of-below (labels_claimed c.args.self) 0 in omega (arith, low, c.class_of-c.ensures)

pub label-requires-clause-d : goal.label-requires-clause-d
label-requires-clause-d c = let low = class_of-below (labels_claimed c.args.self) 1 in omega (arith, low, c.class_of-d.ensures)

pub returns-then-length-from : goal.returns-then-length-from
returns-then-length-from c =
    let s = c.args.self in
    let row = row-first s.kept.ends.now c.requires.full.rising (row-exists s c.requires) in
    too-long s c.args.program.now c.label.result c.class_of-c.result c.class_of-d.result c.program_length-length.result
    (c.label.ensures 0 row (omega arith)) c.class_of-c.ensures c.class_of-d.ensures c.program_length-length.ensures
    (omega (arith, c.if-length-from.true, c.from.ensures))

pub makes-requires : goal.makes-requires
makes-requires c =
    let low = count-length c.args.program.now in
    omega (arith, low, c.program_length-length.ensures, c.if-length-from.false, c.from.ensures)

pub returns-in-Some : goal.returns-in-Some
returns-in-Some c = search rules
