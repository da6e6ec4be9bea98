use Rattle.std.proofs.Common.{ap}
use Rattle.pef_cert.specs.Certified.{Certified}
use Rattle.pef_plan.proofs.PlanFacts.{PlanOf, plan_exact, plan_valid}
use Rattle.pef_plan.proofs.planner.counted_plan.Goals as goal

pub returns-clause-valid : goal.returns-clause-valid
returns-clause-valid c =
    let s = c.in_ok-program.field-0 in
    let whole : Certified = record { section = c.args.section; program = s.program.items; registers = s.registers.items; labels = c.in_ok-labels.labels.rows } in
    let made : PlanOf c.args.fixups.now s.tables.labels s.tables.skips whole = record {
      fit = c.requires.fit;
      registers = c.in_ok-program.ensures.registers;
      tables = c.in_ok-program.ensures.tables;
      least = c.in_ok-program.ensures.least;
      rows_are = ap (λ rows. rows.rows) c.in_ok-labels.ensures;
    } in
    plan_valid c.args.fixups.now s.tables.labels s.tables.skips whole made

pub returns-clause-exact : goal.returns-clause-exact
returns-clause-exact c =
    let s = c.in_ok-program.field-0 in
    let whole : Certified = record { section = c.args.section; program = s.program.items; registers = s.registers.items; labels = c.in_ok-labels.labels.rows } in
    let made : PlanOf c.args.fixups.now s.tables.labels s.tables.skips whole = record {
      fit = c.requires.fit;
      registers = c.in_ok-program.ensures.registers;
      tables = c.in_ok-program.ensures.tables;
      least = c.in_ok-program.ensures.least;
      rows_are = ap (λ rows. rows.rows) c.in_ok-labels.ensures;
    } in
    plan_exact c.args.fixups.now s.tables.labels s.tables.skips whole made
