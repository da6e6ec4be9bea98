use Rattle.std.proofs.Common.{◌+◌, ◌≤◌, ◌∙◌, arith, length}
use Rattle.pef_plan.specs.Kept.Steps.{labels_tabled}
use Rattle.pef_plan.specs.Runs.Tables.{label_in}
use Rattle.pef_plan.proofs.PickLemmas.{pick_addition, pick_set_c, pick_set_d, up_to}
use Rattle.pef_plan.proofs.StepFacts.{agrees_others, best_falls, chosen_falls, extension_label}
use Rattle.pef_plan.proofs.reading.step_at.Goals as goal

pub returns-then-best-from-clause-falls : goal.returns-then-best-from-clause-falls
returns-then-best-from-clause-falls c =
    let low = c.if-best-from.true in
    let is = c.label-label.ensures.is in
    chosen_falls c.args.known c.args.here c.direct-best.result c.requires.here c.requires.at c.direct-best.ensures.chosen (omega (arith, low, is))

pub set_c-requires-clause-low : goal.set_c-requires-clause-low
set_c-requires-clause-low c =
    let p = c.args.here.place in
    let there = extension_label c.args.known c.args.here c.loop-class.class p.d c.requires.here c.requires.at in
    let mine = extension_label c.args.known c.args.here p.c p.d c.requires.here c.requires.at in
    let low = c.if-label.true in
    let one = c.label.ensures.is in
    let two = c.label-label.ensures.is in
    omega (arith, there, mine, low, one, two)

pub set_d-requires-clause-low : goal.set_d-requires-clause-low
set_d-requires-clause-low c =
    let p = c.args.here.place in
    let there = extension_label c.args.known c.args.here p.c c.loop-class.class c.requires.here c.requires.at in
    let mine = extension_label c.args.known c.args.here p.c p.d c.requires.here c.requires.at in
    let low = c.if-label-2.true in
    let one = c.label-in-loop-class.ensures.is in
    let two = c.label-label.ensures.is in
    omega (arith, there, mine, low, one, two)

pub returns-clause-falls : goal.returns-clause-falls
returns-clause-falls c = λ s in_place.
    let k = c.args.known in
    let h = c.args.here in
    let end = c.classes-class-end.ensures in
    let past = c.loop-class-test.false in
    let is = c.label-label.ensures.is in
    let above = c.if-best-from.false in
    let met = c.direct-best.ensures.least (labels_tabled k) c.direct-best.result.value (agrees_others k h c.requires.here) (omega arith) (omega (arith, above)) in
    let low = best_falls k h s c.direct-best.result.value c.label-label.result c.requires.here c.requires.at in_place met is
    (λ e under. c.loop-class.invariant.by_c e (omega (arith, under, end, past)))
    (λ e under. c.loop-class.invariant.by_d e (omega (arith, under, end, past))) in
    chosen_falls k h c.direct-best.result c.requires.here c.requires.at c.direct-best.ensures.chosen (omega (arith, low, is)) s in_place

pub returns-then-best-from-clause-first : goal.returns-then-best-from-clause-first
returns-then-best-from-clause-first c =
    let low = c.if-best-from.true in
    let from = c.from.ensures in
    pick_addition c.args.known c.args.here c.from.result c.direct-best.result
    (record { tracked = c.requires.here; at = c.requires.at; is = c.from.ensures ∙ c.label-label.ensures.is; sifted = c.direct-best.ensures.first })
    (omega (arith, low, from))

pub returns-clause-first : goal.returns-clause-first
returns-clause-first c = λ s in_place.
    let k = c.args.known in
    let h = c.args.here in
    let end = c.classes-class-end.ensures in
    let past = c.loop-class-test.false in
    let is = c.label-label.ensures.is in
    let above = c.if-best-from.false in
    let met = c.direct-best.ensures.least (labels_tabled k) c.direct-best.result.value (agrees_others k h c.requires.here) (omega arith) (omega (arith, above)) in
    let low = best_falls k h s c.direct-best.result.value c.label-label.result c.requires.here c.requires.at in_place met is
    (λ e under. c.loop-class.invariant.by_c e (omega (arith, under, end, past)))
    (λ e under. c.loop-class.invariant.by_d e (omega (arith, under, end, past))) in
    absurd (omega (arith, low, above))

pub returns-then-label-clause-first : goal.returns-then-label-clause-first
returns-then-label-clause-first c =
    let above = c.if-best-from.false in
    let end = c.classes-class-end.ensures in
    let within = c.loop-class-test.true in
    let from = c.from.ensures in
    pick_set_c c.args.known c.args.here c.from.result c.direct-best.result c.loop-class.class c.set_c.result
    (record { tracked = c.requires.here; at = c.requires.at; is = c.from.ensures ∙ c.label-label.ensures.is; sifted = c.direct-best.ensures.first })
    (omega (arith, above, from)) (omega (arith, end, within))
    (λ e under. let low = c.loop-class.invariant.by_c e under in omega (arith, low, from))
    (λ e under. let low = c.loop-class.invariant.by_d e under in omega (arith, low, from))
    c.set_c.ensures.falls c.set_c.ensures.instr

pub returns-then-label-2-clause-first : goal.returns-then-label-2-clause-first
returns-then-label-2-clause-first c =
    let k = c.args.known in
    let h = c.args.here in
    let above = c.if-best-from.false in
    let end = c.classes-class-end.ensures in
    let within = c.loop-class-test.true in
    let from = c.from.ensures in
    let most = c.if-label.false in
    let one = c.label.ensures.is in
    pick_set_d k h c.from.result c.direct-best.result c.loop-class.class c.set_d.result
    (record { tracked = c.requires.here; at = c.requires.at; is = c.from.ensures ∙ c.label-label.ensures.is; sifted = c.direct-best.ensures.first })
    (omega (arith, above, from)) (omega (arith, end, within))
    (up_to (λ e. c.from.result ≤ label_in (length k.registers.now + 1) k.labels.now.rows (length h.place.left.now) e h.place.d) c.loop-class.class
    (λ e under. let low = c.loop-class.invariant.by_c e under in omega (arith, low, from)) (omega (arith, most, one, from)))
    (λ e under. let low = c.loop-class.invariant.by_d e under in omega (arith, low, from))
    c.set_d.ensures.falls c.set_d.ensures.instr

pub loop-class-preserved : goal.loop-class-preserved
loop-class-preserved c =
    let k = c.args.known in
    let h = c.args.here in
    let most = c.if-label.false in
    let one = c.label.ensures.is in
    let least = c.if-label-2.false in
    let two = c.label-in-loop-class.ensures.is in
    record {
      by_c = up_to (λ e. c.label-label.result ≤ label_in (length k.registers.now + 1) k.labels.now.rows (length h.place.left.now) e h.place.d) c.loop-class.class c.loop-class.invariant.by_c (omega (arith, most, one));
      by_d = up_to (λ e. c.label-label.result ≤ label_in (length k.registers.now + 1) k.labels.now.rows (length h.place.left.now) h.place.c e) c.loop-class.class c.loop-class.invariant.by_d (omega (arith, least, two));
    }
