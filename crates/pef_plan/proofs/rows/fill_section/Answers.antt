use Rattle.std.proofs.Common.{◌≤◌, ◌+◌, ◌<◌, ◌∙◌, ℕ, arith, length, subst, sym}
use Rattle.pef_plan.specs.Kept.Near.{StepsBeside}
use Rattle.pef_plan.specs.Kept.Rows.{ClosedOf}
use Rattle.pef_plan.specs.Runs.Tables.{number_in, place_of}
use Rattle.pef_plan.proofs.CrossLemmas.{steps-beside}
use Rattle.pef_plan.proofs.DirectLemmas.{adds-section, direct-row, each_place}
use Rattle.pef_plan.proofs.ImportLemmas.{near-steps}
use Rattle.pef_plan.proofs.RunsProofs.PlaceLemmas.{place_under}
use Rattle.pef_plan.proofs.SetLemmas.{closed-steps, steps-plus}
use Rattle.pef_plan.proofs.rows.fill_section.Goals as goal

pub fill_alone-requires-clause-small : goal.fill_alone-requires-clause-small
fill_alone-requires-clause-small c = λ i under.
    let row = c.requires.row in
    let few = c.requires.at.shaped.count in
    each_place (λ v. 1 + v < 4294967296) (length c.args.known.registers.now + 1) c.args.ends.now.near.items
    (λ x y under_x under_y. let low = c.requires.ends.near_small x y under_x under_y in omega (arith, low, few)) i (omega (arith, under, row))

pub lower_in_c-in_c-requires-clause-each : goal.lower_in_c-in_c-requires-clause-each
lower_in_c-in_c-requires-clause-each c = λ x y under_x under_y.
    let a = c.args in
    let r : ℕ = length a.known.registers.now + 1 in
    let row = c.requires.row in
    let inside = place_under r x y under_x under_y in
    adds-section a.known a.at a.ends.now a.of.section x y (number_in r c.fill_alone.new.row x y) c.requires.at c.requires.ends c.requires.base under_x under_y
    (c.fill_alone.ensures.are (place_of r x y) (omega (arith, inside, row)))

pub close_cross-requires-clause-small : goal.close_cross-requires-clause-small
close_cross-requires-clause-small c = λ i under.
    let a = c.args in
    let row = c.requires.row in
    let alone = c.fill_alone.ensures.len in
    let in_c = c.lower_in_c-in_c.ensures.len in
    let in_d = c.lower_in_d-in_d.ensures.len in
    let few = c.requires.at.shaped.count in
    each_place (λ v. v ≤ 1048576) (length a.known.registers.now + 1) c.lower_in_d-in_d.new.row
    (λ x y under_x under_y. let low = (direct-row a.known a.at a.of.section c.lower_in_d-in_d.new.row c.requires.at c.requires.base c.lower_in_d-in_d.ensures.each x y under_x under_y).small in omega (arith, low, few)) i (omega (arith, under, row, alone, in_c, in_d))

pub close_cross-requires-clause-steps : goal.close_cross-requires-clause-steps
close_cross-requires-clause-steps c =
    let a = c.args in
    let r : ℕ = length a.known.registers.now + 1 in
    let row = c.requires.row in
    subst (λ (n : ℕ). StepsBeside n a.of.class c.lower_in_d-in_d.new.row) (sym c.classes.ensures)
    (steps-beside r a.of.class 1 c.lower_in_c-in_c.result c.lower_in_d-in_d.result a.ends.now.near.items c.fill_alone.new.row c.lower_in_c-in_c.new.row c.lower_in_d-in_d.new.row (near-steps a.known a.at a.ends.now c.requires.ends c.requires.steps)
    (λ x y under_x under_y. c.fill_alone.ensures.are (place_of r x y) (let inside = place_under r x y under_x under_y in omega (arith, inside, row)))
    c.lower_in_c-in_c.ensures.lowers c.lower_in_d-in_d.ensures.lowers)

pub returns-then-in_c-gt0-clause-labels : goal.returns-then-in_c-gt0-clause-labels
returns-then-in_c-gt0-clause-labels c =
    let a = c.args in
    record {
      direct = c.lower_in_d-in_d.new.row;
      direct_is = direct-row a.known a.at a.of.section c.lower_in_d-in_d.new.row c.requires.at c.requires.base c.lower_in_d-in_d.ensures.each;
      closed = subst (λ (n : ℕ). ClosedOf n c.lower_in_d-in_d.new.row c.close_cross.new.row) c.classes.ensures c.close_cross.ensures.closed;
    }

pub returns-else-in_d-gt0-clause-labels : goal.returns-else-in_d-gt0-clause-labels
returns-else-in_d-gt0-clause-labels c =
    let a = c.args in
    let r : ℕ = length a.known.registers.now + 1 in
    let row = c.requires.row in
    let last = c.lower_in_d-in_d.new.row in
    let in_c = c.if-in_c-gt0.false in
    let in_d = c.if-in_d-gt0.false in
    record {
      direct = last;
      direct_is = direct-row a.known a.at a.of.section last c.requires.at c.requires.base c.lower_in_d-in_d.ensures.each;
      closed = closed-steps r last (steps-plus r 1 a.ends.now.near.items last (near-steps a.known a.at a.ends.now c.requires.ends c.requires.steps)
          (λ x y under_x under_y.
          c.lower_in_d-in_d.ensures.lowers.none (omega (arith, in_d)) x y under_x under_y
          ∙ (c.lower_in_c-in_c.ensures.lowers.none (omega (arith, in_c)) x y under_x under_y
          ∙ c.fill_alone.ensures.are (place_of r x y) (let inside = place_under r x y under_x under_y in omega (arith, inside, row)))));
    }
