-- The run of one word was tested as an addition alone, and no longer run begins here.
use Rattle.std.proofs.Common.{◌+◌, ◌&&◌, drop, ap, sym, arith}
use Rattle.std.proofs.Math.Path.{ap₂}
use Rattle.pef_reloc.specs.declared.fixup.Base.TheVariants.{Section}
use Rattle.pef_cert.specs.declared.runs.TestedState.{TestedState}
use Rattle.pef_cert.specs.Kept.Claims.{labels_claimed}
use Rattle.pef_cert.proofs.ClassLemmas.{class_of-below}
use Rattle.pef_cert.proofs.CoverLemmas.{spaced-met}
use Rattle.pef_cert.proofs.KindLemmas.{row-here, row-lone}
use Rattle.pef_cert.proofs.claim.CheckedSuffix.d_spaced_hold.Goals as goal

pub state-tested-requires-clause-d : goal.state-tested-requires-clause-d
state-tested-requires-clause-d c = let low = class_of-below (labels_claimed c.args.self.claim) c.args.section in omega (arith, low, c.requires.d)

pub row_holds-requires-clause-met : goal.row_holds-requires-clause-met
row_holds-requires-clause-met c =
    let same = ap (λ (s : TestedState). s.d) c.state-tested.ensures.is in
    spaced-met c.args.self c.state-tested.result c.args.section c.args.d c.state-tested.ensures.tests c.requires.d (sym same)

pub returns : goal.returns
returns c =
    let b = c.args.self in
    let u = c.args.under in
    let low = class_of-below (labels_claimed b.claim) c.args.section in
    let single = c.requires.alone c.args.c (omega (arith, c.requires.c)) c.args.d (omega (arith, low, c.requires.d)) in
    let first = row-lone (labels_claimed b.claim) u.fixup (drop (u.at + 1) b.claim.fixups.now) c.args.section c.args.c c.args.d single c.requires.stops in
    let second = row-here b.claim u c.args.c c.args.d 8 c.from-position.result (Section c.args.section) c.state-tested.result c.row_holds.result c.requires.under.here c.state-tested.ensures.is c.from-position.ensures c.row_holds.ensures in
    ap₂ (λ x y. x && y) first second
