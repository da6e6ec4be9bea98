use Rattle.pef_plan.specs.Runs.Places.{extension_in}
use Rattle.pef_plan.specs.Kept.Steps.{ReadTo, labels_tabled}
use Rattle.pef_plan.proofs.PlannedLemmas.{Reads}
use Rattle.pef_plan.proofs.program.read_program.Given as goal

abbrev pub invariant-steps : goal.invariant-steps
invariant-steps l = record {
  read : ReadTo l.known l.fixups l.program.items l.place;
  planned : Reads l.known l.fixups l.program.items l.place;
}

abbrev pub decreases-steps : goal.decreases-steps
decreases-steps l = extension_in (labels_tabled l.known) l.place
