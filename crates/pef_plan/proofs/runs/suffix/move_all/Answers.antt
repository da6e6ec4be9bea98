use Rattle.std.proofs.Common.{◌≡◌, ◌≢◌, ◌+◌, ◌<◌, ◌≤◌, ◌∙◌, ap, arith, slice_index, subst, ℕ}
use Rattle.std.proofs.lemmas.List.{get_or-set_other, length-set}
use Rattle.pef_plan.specs.Runs.Kept.Ahead.{value_ahead}
use Rattle.pef_plan.specs.Runs.Tables.{number_in, place_of}
use Rattle.pef_plan.proofs.RunsProofs.PlaceLemmas.{class_under, filled-set, next_along, next_line, place_under}
use Rattle.pef_plan.proofs.runs.suffix.move_all.Goals.{then-d-classes, else-d-classes}
use Rattle.pef_plan.proofs.runs.suffix.move_all.Goals as goal

pub value-requires : goal.value-requires
value-requires c =
    let place = c.places.invariant.place in
    let len = c.requires.len in
    let wide = c.requires.skips in
    let under = c.places-test.true in
    let low = class_under c.args.classes c.places.c c.places.d (omega (arith, place, under, len)) in
    omega (arith, low, wide)

pub places-preserved : goal.places-preserved
places-preserved c =
    let a = c.args in
    let i = c.places.invariant in
    let r : ℕ = a.classes in
    let len = i.len in
    let place = i.place in
    let low = i.d in
    let under = c.places-test.true in
    let here : slice_index c.places.values c.places.place ≡ number_in r a.values.now c.places.c c.places.d = i.left c.places.place (omega arith) ∙ ap (slice_index a.values.now) place in
    let next : (c.places.place + 1 ≡ place_of r c.if-d-classes.c c.if-d-classes.d) × (c.if-d-classes.d < r) = elim c.if-d-classes.branch [
      | then-d-classes w ↦ next_line r c.places.place c.places.c c.places.d c.if-d-classes.c c.if-d-classes.d place low w.if-d-classes.true w.c-is w.d-is
      | else-d-classes w ↦ next_along r c.places.place c.places.c c.places.d c.if-d-classes.c c.if-d-classes.d place low w.if-d-classes.false w.c-is w.d-is
    ] in
    record {
      len = length-set c.places.values c.places.place c.value.result ∙ len;
      place = next.0;
      d = next.1;
      filled = filled-set r (λ x y v. (v ≡ value_ahead a.ahead (number_in r a.values.now x y) x y) × (v ≤ 2 + number_in r a.values.now x y)) c.places.values c.places.place c.places.c c.places.d c.value.result place (omega (arith, under, len)) low (
        c.value.ensures.is ∙ ap (λ n. value_ahead a.ahead n c.places.c c.places.d) here,
        subst (λ n. c.value.result ≤ 2 + n) here c.value.ensures.small,
      ) i.filled;
      left = λ j from.
          let apart : j ≢ c.places.place = λ same. omega (arith, same, from) in
          get_or-set_other c.places.values c.places.place j c.value.result 0 apart ∙ i.left j (omega (arith, from));
    }

pub returns-clause-are : goal.returns-clause-are
returns-clause-are c = λ x y under_x under_y.
    let i = c.places.invariant in
    let past = c.places-test.false in
    let len = c.requires.len in
    let low = place_under c.args.classes x y under_x under_y in
    (i.filled x y under_y (omega (arith, low, past, len))).0

pub returns-clause-small : goal.returns-clause-small
returns-clause-small c = λ x y under_x under_y.
    let i = c.places.invariant in
    let past = c.places-test.false in
    let len = c.requires.len in
    let low = place_under c.args.classes x y under_x under_y in
    (i.filled x y under_y (omega (arith, low, past, len))).1
