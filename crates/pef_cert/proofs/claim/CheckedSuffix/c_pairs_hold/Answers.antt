-- The run of one word was tested as an addition alone, and no longer run begins here.
use Rattle.std.proofs.Common.{◌+◌, ◌&&◌, drop, arith}
use Rattle.std.proofs.Math.Path.{ap₂}
use Rattle.pef_cert.specs.Kept.Claims.{labels_claimed}
use Rattle.pef_cert.proofs.ClassLemmas.{class_of-below}
use Rattle.pef_cert.proofs.KindLemmas.{row-lone, second-here}
use Rattle.pef_cert.proofs.claim.CheckedSuffix.c_pairs_hold.Goals as goal

pub state-requires-clause-c : goal.state-requires-clause-c
state-requires-clause-c c = let low = class_of-below (labels_claimed c.args.self.claim) c.args.section in omega (arith, low, c.requires.c)

pub returns : goal.returns
returns c =
    let b = c.args.self in
    let u = c.args.under in
    let low = class_of-below (labels_claimed b.claim) c.args.section in
    let single = c.requires.alone c.args.c (omega (arith, low, c.requires.c)) c.args.d (omega (arith, c.requires.d)) in
    let first = row-lone (labels_claimed b.claim) u.fixup (drop (u.at + 1) b.claim.fixups.now) c.args.section c.args.c c.args.d single c.requires.stops in
    let second = second-here b.claim u c.args.c c.args.d c.args.section c.state.result c.second_holds.result c.requires.under.here c.state.ensures.is c.second_holds.ensures in
    ap₂ (λ x y. x && y) first second
