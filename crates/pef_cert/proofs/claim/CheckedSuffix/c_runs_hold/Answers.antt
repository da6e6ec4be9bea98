use Rattle.std.proofs.Common.{◌==◌, ◌+◌, ◌&&◌, true, false, drop, ap, sym, ◌∙◌, arith, eq-eqb}
use Rattle.std.proofs.Math.Path.{ap₂}
use Rattle.std.proofs.lemmas.Bool.{or_left}
use Rattle.pef_reloc.specs.declared.fixup.Base.TheVariants.{Section}
use Rattle.pef_cert.specs.declared.runs.TestedState.{TestedState}
use Rattle.pef_cert.specs.Kept.Claims.{labels_claimed}
use Rattle.pef_cert.specs.Kept.Tests.{label_of}
use Rattle.pef_cert.specs.LabelTests.{second_test}
use Rattle.pef_cert.proofs.ClassLemmas.{class_of-below}
use Rattle.pef_cert.proofs.CoverLemmas.{words-met}
use Rattle.pef_cert.proofs.KindLemmas.{row-here, second-here}
use Rattle.pef_cert.proofs.claim.CheckedSuffix.c_runs_hold.Goals as goal

pub row_holds-requires-clause-met : goal.row_holds-requires-clause-met
row_holds-requires-clause-met c =
    let t = c.state-tested.result in
    let same = ap (λ (s : TestedState). s.c) c.state-tested.ensures.is in
    words-met c.args.self t c.args.section c.args.c c.state-tested.ensures.tests c.requires.c (or_left (c.args.c == t.c) (c.args.c == t.d) (eq-eqb c.args.c t.c (sym same)))

pub state-tested-requires-clause-c : goal.state-tested-requires-clause-c
state-tested-requires-clause-c c = let low = class_of-below (labels_claimed c.args.self.claim) c.args.section in omega (arith, low, c.requires.c)

pub returns-then-not-row_holds : goal.returns-then-not-row_holds
returns-then-not-row_holds c =
    let b = c.args.self in
    let u = c.args.under in
    let first = row-here b.claim u c.args.c c.args.d 4 c.from-position.result (Section c.args.section) c.state-tested.result false c.requires.under.here c.state-tested.ensures.is c.from-position.ensures c.if-not-row_holds.ensures in
    ap (λ x. x && second_test (labels_claimed b.claim) (label_of (labels_claimed b.claim) u.fixup (drop (u.at + 1) b.claim.fixups.now) c.args.c c.args.d) c.args.section c.args.c c.args.d u.fixup (drop (u.at + 1) b.claim.fixups.now)) first

pub second_holds-requires-clause-class : goal.second_holds-requires-clause-class
second_holds-requires-clause-class c = sym c.requires.c ∙ sym (ap (λ (s : TestedState). s.c) c.state-tested.ensures.is)

pub returns : goal.returns
returns c =
    let b = c.args.self in
    let u = c.args.under in
    let first = row-here b.claim u c.args.c c.args.d 4 c.from-position.result (Section c.args.section) c.state-tested.result true c.requires.under.here c.state-tested.ensures.is c.from-position.ensures c.if-not-row_holds.ensures in
    let second = second-here b.claim u c.args.c c.args.d c.args.section c.state-tested.result c.second_holds.result c.requires.under.here c.state-tested.ensures.is c.second_holds.ensures in
    ap₂ (λ x y. x && y) first second
