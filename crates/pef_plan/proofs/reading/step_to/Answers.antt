use Rattle.std.proofs.Common.{◌≢◌, ◌+◌, ◌-◌, ◌∙◌, ap, arith, refl, sym}
use Rattle.pef_plan.specs.Runs.Places.{extension_in}
use Rattle.pef_plan.specs.Kept.Steps.{labels_tabled}
use Rattle.pef_plan.specs.Runs.Tables.{label_in}
use Rattle.std.proofs.Common.{length}
use Rattle.pef_cert.specs.Extension.{extension}
use Rattle.pef_plan.proofs.MoveFacts.{label-there, short_move, skips_to}
use Rattle.pef_plan.proofs.PickLemmas.{no_move, pick_far, pick_near, pick_short}
use Rattle.pef_reloc.specs.declared.instr.Instr.TheVariants.{IncrPosition}
use Rattle.pef_plan.proofs.reading.step_to.Goals as goal
use Rattle.pef_plan.proofs.reading.step_to.Goals.{else-ahead-ge1-via-then-ahead-ge1+then-ahead-le-REACH+else-value-label-2, else-ahead-ge1-via-then-ahead-ge1+else-ahead-le-REACH, else-ahead-ge1-via-else-ahead-ge1}

pub set_position-requires-clause-low : goal.set_position-requires-clause-low
set_position-requires-clause-low c =
    let k = c.args.known in
    let h = c.args.here in
    let there = label-there k h h.first.offset c.requires.here refl in
    let value = c.value-value.ensures.is (labels_tabled k) c.requires.here.at.agrees in
    let label = c.from-label.ensures ∙ c.label.ensures.is in
    let two = c.if-value-label.true in
    omega (arith, there, value, label, two)

pub increment-requires-clause-low : goal.increment-requires-clause-low
increment-requires-clause-low c =
    let k = c.args.known in
    let h = c.args.here in
    let from = c.from.ensures in
    let ahead = c.saturating_sub-ahead.ensures in
    let some = c.if-ahead-ge1.true in
    let there = label-there k h (h.place.position + c.saturating_sub-ahead.result) c.requires.here (omega (arith, from, ahead, some)) in
    let value = c.value-value.ensures.is (labels_tabled k) c.requires.here.at.agrees in
    let label = c.from-label.ensures ∙ c.label.ensures.is in
    let one = c.if-value-label-2.true in
    omega (arith, there, value, label, one)

pub increment-requires-then-ahead-gt-REACH-clause-few : goal.increment-requires-then-ahead-gt-REACH-clause-few
increment-requires-then-ahead-gt-REACH-clause-few c =
    let k = c.args.known in
    let h = c.args.here in
    let is = c.saturating_sub-ahead.ensures ∙ ap (λ n. n - h.place.position) c.from.ensures in
    let value = c.value-value.ensures.is (labels_tabled k) c.requires.here.at.agrees in
    let other : extension_in (labels_tabled k) h.place ≢ 2 + label_in (length k.registers.now + 1) k.labels.now.rows (length h.place.left.now) h.place.c h.place.d = λ e. c.if-value-label.false (value ∙ (e ∙ ap (λ n. 2 + n) (sym (c.from-label.ensures ∙ c.label.ensures.is)))) in
    let beyond = c.if-ahead-gt-REACH.true in
    let most = (short_move k h c.requires.here c.requires.away (omega (arith, is, beyond)) other).1 in
    omega (arith, is, most)

pub increment-requires-then-ahead-gt-REACH-clause-low : goal.increment-requires-then-ahead-gt-REACH-clause-low
increment-requires-then-ahead-gt-REACH-clause-low c =
    let k = c.args.known in
    let h = c.args.here in
    let is = c.saturating_sub-ahead.ensures ∙ ap (λ n. n - h.place.position) c.from.ensures in
    let value = c.value-value.ensures.is (labels_tabled k) c.requires.here.at.agrees in
    let other : extension_in (labels_tabled k) h.place ≢ 2 + label_in (length k.registers.now + 1) k.labels.now.rows (length h.place.left.now) h.place.c h.place.d = λ e. c.if-value-label.false (value ∙ (e ∙ ap (λ n. 2 + n) (sym (c.from-label.ensures ∙ c.label.ensures.is)))) in
    let beyond = c.if-ahead-gt-REACH.true in
    let low = (short_move k h c.requires.here c.requires.away (omega (arith, is, beyond)) other).0 in
    let same = ap (λ n. extension (labels_tabled k) h.place.left.now (h.place.position + (n - 1020)) h.place.c h.place.d) is in
    omega (arith, low, same)

pub skip_to-requires-clause-near : goal.skip_to-requires-clause-near
skip_to-requires-clause-near c =
    let k = c.args.known in
    let h = c.args.here in
    let is = c.saturating_sub-ahead.ensures ∙ ap (λ n. n - h.place.position) c.from.ensures in
    let value = c.value-value.ensures.is (labels_tabled k) c.requires.here.at.agrees in
    let within = c.if-ahead-gt-REACH.false in
    skips_to k h c.requires.here c.requires.away (omega (arith, is, within))
    (λ e. c.if-value-label.false (value ∙ (e ∙ ap (λ n. 2 + n) (sym (c.from-label.ensures ∙ c.label.ensures.is)))))
    (λ some e. elim c.else-ahead-ge1.branch [
      | else-ahead-ge1-via-then-ahead-ge1+then-ahead-le-REACH+else-value-label-2 w ↦ w.if-value-label-2.false (value ∙ (e ∙ ap (λ n. 1 + n) (sym (c.from-label.ensures ∙ c.label.ensures.is))))
      | else-ahead-ge1-via-then-ahead-ge1+else-ahead-le-REACH w ↦ (let far = w.if-ahead-le-REACH.false in absurd (omega (arith, far, within)))
      | else-ahead-ge1-via-else-ahead-ge1 w ↦ (let none = w.if-ahead-ge1.false in absurd (omega (arith, none, some, is)))
    ])

pub returns-then-value-label-clause-first : goal.returns-then-value-label-clause-first
returns-then-value-label-clause-first c = pick_far c.args.known c.args.here c.set_position.result c.requires.here c.requires.away c.set_position.ensures.falls c.set_position.ensures.instr

pub returns-then-value-label-2-clause-first : goal.returns-then-value-label-2-clause-first
returns-then-value-label-2-clause-first c =
    let k = c.args.known in
    let h = c.args.here in
    let is = c.saturating_sub-ahead.ensures ∙ ap (λ n. n - h.place.position) c.from.ensures in
    let value = c.value-value.ensures.is (labels_tabled k) c.requires.here.at.agrees in
    pick_near k h c.increment.result c.requires.here c.requires.away
    (λ e. c.if-value-label.false (value ∙ (e ∙ ap (λ n. 2 + n) (sym (c.from-label.ensures ∙ c.label.ensures.is)))))
    c.increment.ensures.falls (c.increment.ensures.instr ∙ ap (λ n. IncrPosition n) is)

pub returns-then-ahead-gt-REACH-clause-first : goal.returns-then-ahead-gt-REACH-clause-first
returns-then-ahead-gt-REACH-clause-first c =
    let k = c.args.known in
    let h = c.args.here in
    let is = c.saturating_sub-ahead.ensures ∙ ap (λ n. n - h.place.position) c.from.ensures in
    let value = c.value-value.ensures.is (labels_tabled k) c.requires.here.at.agrees in
    let beyond = c.if-ahead-gt-REACH.true in
    pick_short k h c.increment-then-ahead-gt-REACH.result c.requires.here c.requires.away
    (no_move k h c.requires.here c.requires.away (record {
      far = λ e. c.if-value-label.false (value ∙ (e ∙ ap (λ n. 2 + n) (sym (c.from-label.ensures ∙ c.label.ensures.is))));
      near = λ some few e. absurd (omega (arith, is, beyond, few));
    }))
    c.increment-then-ahead-gt-REACH.ensures.falls (c.increment-then-ahead-gt-REACH.ensures.instr ∙ ap (λ n. IncrPosition (n - 1020)) is)

pub returns-clause-first : goal.returns-clause-first
returns-clause-first c =
    let k = c.args.known in
    let h = c.args.here in
    let is = c.saturating_sub-ahead.ensures ∙ ap (λ n. n - h.place.position) c.from.ensures in
    let value = c.value-value.ensures.is (labels_tabled k) c.requires.here.at.agrees in
    let within = c.if-ahead-gt-REACH.false in
    c.skip_to.ensures.first (no_move k h c.requires.here c.requires.away (record {
      far = λ e. c.if-value-label.false (value ∙ (e ∙ ap (λ n. 2 + n) (sym (c.from-label.ensures ∙ c.label.ensures.is))));
      near = λ some few e. elim c.else-ahead-ge1.branch [
        | else-ahead-ge1-via-then-ahead-ge1+then-ahead-le-REACH+else-value-label-2 w ↦ w.if-value-label-2.false (value ∙ (e ∙ ap (λ n. 1 + n) (sym (c.from-label.ensures ∙ c.label.ensures.is))))
        | else-ahead-ge1-via-then-ahead-ge1+else-ahead-le-REACH w ↦ (let far = w.if-ahead-le-REACH.false in absurd (omega (arith, far, within)))
        | else-ahead-ge1-via-else-ahead-ge1 w ↦ (let none = w.if-ahead-ge1.false in absurd (omega (arith, none, some, is)))
      ];
    }))
