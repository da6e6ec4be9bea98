use Rattle.pef_plan.proofs.RegisterLemmas.{UsedBelow}
use Rattle.pef_plan.proofs.registers.registers_of.Given as goal

abbrev pub invariant-loop-section : goal.invariant-loop-section
invariant-loop-section l = UsedBelow l.fixups l.section l.registers.items
