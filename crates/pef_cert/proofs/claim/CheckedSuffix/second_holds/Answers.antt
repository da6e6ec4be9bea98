use Rattle.std.proofs.Common.{◌+◌}
use Rattle.pef_cert.specs.Kept.Claims.{labels_claimed}
use Rattle.pef_cert.proofs.AdditionLemmas.{second-some}
use Rattle.pef_cert.proofs.ClaimLemmas.{get-is}
use Rattle.pef_cert.proofs.claim.CheckedSuffix.second_holds.Goals as goal

pub returns-in-Some : goal.returns-in-Some
returns-in-Some c =
    let b = c.args.self in
    let t = c.args.tested in
    let found = c.in-Some.ensures.lookup.3 in
    second-some (labels_claimed b.claim) t.label c.args.section t.c t.d t.fixup c.in-Some.next.now b.claim.fixups.now t.at c.pair_holds.result c.requires.tests.here (get-is b.claim.fixups.now (t.at + 1) c.in-Some.next.now found.0 (found.1 c.in-Some.next.now)) c.pair_holds.ensures
