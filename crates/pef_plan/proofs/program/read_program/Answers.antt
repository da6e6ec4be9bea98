use Rattle.std.proofs.Common.{List, refl, subst, sym}
use Rattle.pef_reloc.specs.declared.instr.Instr.{Instr}
use Rattle.pef_reloc.specs.Steps.{start, state_after}
use Rattle.pef_plan.specs.declared.runs.state.PlanState.{PlanState}
use Rattle.pef_plan.specs.Kept.Steps.{ReadTo}
use Rattle.pef_plan.proofs.PlannedLemmas.{Reads, reads_end, reads_next}
use Rattle.pef_plan.proofs.ProgramFacts.{read_least, read_next, read_start}
use Rattle.pef_plan.proofs.program.read_program.Goals as goal

pub steps-init : goal.steps-init
steps-init c =
    let p : PlanState = record { left = c.args.fixups; position = 0; import_index = 0; c = c.class_of.result; d = c.class_of-2.result } in
    record {
      read = subst (λ (xs : List Instr). ReadTo c.args.known c.args.fixups.now xs p) (sym c.new-program.ensures.items)
          (read_start c.args.known p c.requires.fit c.requires.registers c.requires.tables refl (record { position = refl; import_index = refl; c = sym c.class_of.ensures; d = sym c.class_of-2.ensures }));
      planned = subst (λ (xs : List Instr). Reads c.args.known c.args.fixups.now xs p) (sym c.new-program.ensures.items) (λ more planned. planned);
    }

pub steps-preserved : goal.steps-preserved
steps-preserved c =
    let k = c.args.known in
    let instrs = c.steps.program.items in
    let read = c.steps.invariant.read in
    let falls = c.next_step-step.ensures.falls (state_after instrs start) read.in_place in
    record {
      read = subst (λ (xs : List Instr). ReadTo k c.args.fixups.now xs c.next_step-step.result.next) (sym c.in_ok-push.ensures.items)
          (read_next k c.args.fixups.now instrs c.steps.place c.next_step-step.result read falls);
      planned = subst (λ (xs : List Instr). Reads k c.args.fixups.now xs c.next_step-step.result.next) (sym c.in_ok-push.ensures.items)
          (reads_next k c.args.fixups.now instrs c.steps.place c.next_step-step.result read.tracked read.in_place falls c.next_step-step.ensures.first c.steps.invariant.planned);
    }

pub returns-clause-least : goal.returns-clause-least
returns-clause-least c = read_least c.args.known c.args.fixups.now c.steps.program.items c.steps.place c.requires.fit c.requires.registers c.requires.tables c.steps.invariant.read c.in_default.ensures.cases

pub returns-clause-planned : goal.returns-clause-planned
returns-clause-planned c = reads_end c.args.known c.args.fixups.now c.steps.program.items c.steps.place c.requires.registers c.steps.invariant.planned c.in_default.ensures.cases
