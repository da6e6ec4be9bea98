-- The first entry that waits decides.
use Rattle.std.proofs.Common.{◌<◌, ◌==◌, length, sym, ap, ◌∙◌, arith}
use Rattle.std.proofs.lemmas.List.{get_or_default}
use Rattle.cfm_closure.specs.Fragments.{library_count}
use Rattle.cfm_closure.specs.Kept.Taken.{taken_of}
use Rattle.cfm_closure.proofs.InitLemmas.{awaited-all, awaited-first, ready-all, ready-not}
use Rattle.cfm_closure.proofs.init_order.InitState.passed.Goals as goal

pub index-l-requires : goal.index-l-requires
index-l-requires c =
    let place = (c.requires.taking.complete.members c.args.p c.requires.place).place in
    let size = c.requires.taking.passed_size in
    let long = c.args.self.now.passed.ok.0 in
    omega arith

pub loop-l-init : goal.loop-l-init
loop-l-init c =
    let place = (c.requires.taking.complete.members c.args.p c.requires.place).place in
    let inside : c.args.p < length c.args.self.now.passed.items = let size = c.requires.taking.passed_size in omega arith in
    let here = get_or_default c.args.self.now.passed.items c.args.p 0 c.index-l.result.now inside ∙ sym c.index-l.ensures in
    λ k under. c.requires.taking.passed c.args.p k (omega arith)

pub returns-then-awaits-clause-ready : goal.returns-then-awaits-clause-ready
returns-then-awaits-clause-ready c =
    let count = c.libraries-libraries.ensures in
    let under : c.loop-l.l < library_count c.args.bindings.now.pairs c.args.p = omega arith in
    ready-not c.args.bindings.now.pairs (taken_of c.args.self.now) c.args.p c.loop-l.l under c.loop-l.invariant (sym c.if-awaits.ensures)

pub returns-clause-ready : goal.returns-clause-ready
returns-clause-ready c =
    let pairs = c.args.bindings.now.pairs in
    let count = c.libraries-libraries.ensures in
    ready-all pairs (taken_of c.args.self.now) c.args.p (λ k under. c.loop-l.invariant k (omega arith))
    ∙ ap (λ n. n == library_count pairs c.args.p) (sym count)

pub returns-then-awaits-clause-awaited : goal.returns-then-awaits-clause-awaited
returns-then-awaits-clause-awaited c =
    let count = c.libraries-libraries.ensures in
    let under : c.loop-l.l < library_count c.args.bindings.now.pairs c.args.p = omega arith in
    sym (awaited-first c.args.bindings.now.pairs (taken_of c.args.self.now) c.args.p c.loop-l.l under c.loop-l.invariant (sym c.if-awaits.ensures))

pub returns-clause-awaited : goal.returns-clause-awaited
returns-clause-awaited c =
    let count = c.libraries-libraries.ensures in
    count ∙ sym (awaited-all c.args.bindings.now.pairs (taken_of c.args.self.now) c.args.p (λ k under. c.loop-l.invariant k (omega arith)))
