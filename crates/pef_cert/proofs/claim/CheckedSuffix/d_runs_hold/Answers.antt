use Rattle.std.proofs.Common.{◌==◌, ◌+◌, ◌&&◌, ◌∷◌, true, false, drop, ap, sym, arith, eq-eqb}
use Rattle.std.proofs.Math.Path.{ap₂}
use Rattle.std.proofs.lemmas.Bool.{or_right}
use Rattle.pef_reloc.specs.declared.fixup.Base.TheVariants.{Section}
use Rattle.pef_cert.specs.declared.runs.TestedState.{TestedState}
use Rattle.pef_cert.specs.Kept.Claims.{labels_claimed}
use Rattle.pef_cert.specs.Kept.Tests.{label_of}
use Rattle.pef_cert.specs.LabelTests.{row_test}
use Rattle.pef_cert.proofs.ClassLemmas.{class_of-below}
use Rattle.pef_cert.proofs.CoverLemmas.{spaced-met, words-met}
use Rattle.pef_cert.proofs.KindLemmas.{row-here}
use Rattle.pef_cert.proofs.claim.CheckedSuffix.d_runs_hold.Goals as goal

pub row_holds-requires-clause-met : goal.row_holds-requires-clause-met
row_holds-requires-clause-met c =
    let t = c.state-tested.result in
    let same = ap (λ (s : TestedState). s.d) c.state-tested.ensures.is in
    words-met c.args.self t c.args.section c.args.d c.state-tested.ensures.tests c.requires.d (or_right (c.args.d == t.c) (c.args.d == t.d) (eq-eqb c.args.d t.d (sym same)))

pub state-tested-requires-clause-d : goal.state-tested-requires-clause-d
state-tested-requires-clause-d c = let low = class_of-below (labels_claimed c.args.self.claim) c.args.section in omega (arith, low, c.requires.d)

pub returns-then-not-row_holds : goal.returns-then-not-row_holds
returns-then-not-row_holds c =
    let b = c.args.self in
    let u = c.args.under in
    let first = row-here b.claim u c.args.c c.args.d 4 c.from-position.result (Section c.args.section) c.state-tested.result false c.requires.under.here c.state-tested.ensures.is c.from-position.ensures c.if-not-row_holds.ensures in
    ap (λ x. x && row_test (labels_claimed b.claim) (label_of (labels_claimed b.claim) u.fixup (drop (u.at + 1) b.claim.fixups.now) c.args.c c.args.d) 8 (Section c.args.section) c.args.c c.args.d 512 u.fixup.offset (u.fixup ∷ drop (u.at + 1) b.claim.fixups.now)) first

pub row_holds-requires-2-clause-met : goal.row_holds-requires-2-clause-met
row_holds-requires-2-clause-met c =
    let same = ap (λ (s : TestedState). s.d) c.state-tested.ensures.is in
    spaced-met c.args.self c.state-tested.result c.args.section c.args.d c.state-tested.ensures.tests c.requires.d (sym same)

pub returns : goal.returns
returns c =
    let b = c.args.self in
    let u = c.args.under in
    let first = row-here b.claim u c.args.c c.args.d 4 c.from-position.result (Section c.args.section) c.state-tested.result true c.requires.under.here c.state-tested.ensures.is c.from-position.ensures c.if-not-row_holds.ensures in
    let second = row-here b.claim u c.args.c c.args.d 8 c.from-position.result (Section c.args.section) c.state-tested.result c.row_holds-2.result c.requires.under.here c.state-tested.ensures.is c.from-position.ensures c.row_holds-2.ensures in
    ap₂ (λ x y. x && y) first second
