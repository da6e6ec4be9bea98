-- An allocation failed before the words were read.
use Rattle.pef_tool.specs.Answers.Faults.{fault_answer}
use Rattle.pef_faults.specs.declared.fault.Fault.TheVariants.{OutOfMemory}
use Rattle.pef_tool.proofs.OutcomeLemmas.{lacks_memory}
use Rattle.pef_tool.proofs.commands.perform.Goals as goal

pub returns-in-Err-OutOfMemory : goal.returns-in-Err-OutOfMemory
returns-in-Err-OutOfMemory g c = (fault_answer OutOfMemory, lacks_memory _ _ _ _ _, c.deliver-in-Err-OutOfMemory.ensures)
