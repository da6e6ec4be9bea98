use Rattle.std.proofs.Common.{◌+◌, ◌<◌, ◌∙◌, ℕ, arith, length}
use Rattle.std.proofs.lemmas.Bool.{eqb-true}
use Rattle.pef_plan.specs.Runs.Tables.{number_in}
use Rattle.pef_plan.proofs.DirectLemmas.{direct-import, each-import, each_place}
use Rattle.pef_plan.proofs.ImportLemmas.{alone-steps}
use Rattle.pef_plan.proofs.SetLemmas.{closed-steps}
use Rattle.pef_plan.proofs.rows.fill_import.Goals as goal

pub fill_alone-requires-clause-small : goal.fill_alone-requires-clause-small
fill_alone-requires-clause-small c = λ i under.
    let row = c.requires.row in
    let few = c.requires.at.shaped.count in
    let cost = c.import_cost.ensures.small in
    each_place (λ v. c.import_cost.result + v < 4294967296) (length c.args.known.registers.now + 1) c.args.ends.now.near.items
    (λ x y under_x under_y. let low = c.requires.ends.near_small x y under_x under_y in omega (arith, low, few, cost)) i (omega (arith, under, row))

pub lower_by_imports-requires-clause-each : goal.lower_by_imports-requires-clause-each
lower_by_imports-requires-clause-each c =
    let a = c.args in
    let row = c.requires.row in
    each-import a.known a.at a.ends.now a.import c.import_cost.result c.fill_alone.new.row c.requires.at c.requires.ends c.requires.base c.import_cost.ensures.is (λ i under. c.fill_alone.ensures.are i (omega (arith, under, row)))

pub lower_by_imports-requires-clause-alone : goal.lower_by_imports-requires-clause-alone
lower_by_imports-requires-clause-alone c =
    let a = c.args in
    let row = c.requires.row in
    alone-steps a.known a.at a.ends.now c.import_cost.result c.fill_alone.new.row c.requires.ends c.requires.steps (λ i under. c.fill_alone.ensures.are i (omega (arith, under, row)))

pub returns-then-from-at-clause-labels : goal.returns-then-from-at-clause-labels
returns-then-from-at-clause-labels c = record {
  direct = c.lower_by_imports.new.row;
  direct_is = c.lower_by_imports.ensures.direct;
  closed = closed-steps (length c.args.known.registers.now + 1) c.lower_by_imports.new.row c.lower_by_imports.ensures.steps;
}

pub returns-else-from-at-clause-labels : goal.returns-else-from-at-clause-labels
returns-else-from-at-clause-labels c =
    let a = c.args in
    let r : ℕ = length a.known.registers.now + 1 in
    let row = c.requires.row in
    record {
      direct = c.fill_alone.new.row;
      direct_is = λ x y under_x under_y.
          direct-import a.known a.at a.import x y (number_in r c.fill_alone.new.row x y) c.requires.at c.requires.base
          (each-import a.known a.at a.ends.now a.import c.import_cost.result c.fill_alone.new.row c.requires.at c.requires.ends c.requires.base c.import_cost.ensures.is (λ i under. c.fill_alone.ensures.are i (omega (arith, under, row))) x y under_x under_y)
          (λ l n agrees low same. absurd (c.if-from-at.false (c.from.ensures ∙ eqb-true a.import a.at.import_index same)));
      closed = closed-steps r c.fill_alone.new.row (alone-steps a.known a.at a.ends.now c.import_cost.result c.fill_alone.new.row c.requires.ends c.requires.steps (λ i under. c.fill_alone.ensures.are i (omega (arith, under, row))));
    }
