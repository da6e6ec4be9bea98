-- The container was written, or it wasn't.
use Rattle.std.proofs.Common.{Ok, Err, ap, length, refl}
use Rattle.pef_faults.specs.declared.fault.Fault.TheVariants.{Unwritable, OutOfMemory}
use Rattle.pef_ports.specs.declared.ports.FileFault.TheVariants as file_fault
use Rattle.pef_tool.specs.Answers.Answers.{answer_done}
use Rattle.pef_tool.specs.Answers.Faults.{fault_answer}
use Rattle.pef_tool.specs.Extract.{extracted_text}
use Rattle.pef_tool.proofs.extract.write_container.Goals as goal

pub returns-in-Ok : goal.returns-in-Ok
returns-in-Ok g c =
    (answer_done (extracted_text (length c.args.container.now)), (Ok tt, record { call = c.in-Ok.ensures.call; told = c.in-Ok.ensures.told }, refl), c.deliver.ensures)

pub returns-in-Err-Failed : goal.returns-in-Err-Failed
returns-in-Err-Failed g c =
    let call = rw c.in-Err-Failed.field-0-is at c.in-Err-Failed.ensures.call in
    let told = rw c.in-Err-Failed.field-0-is at c.in-Err-Failed.ensures.told in
    let because = ap (λ why. fault_answer (Unwritable c.args.target why)) c.reason-reason.ensures in
    (fault_answer (Unwritable c.args.target c.reason-reason.result), (Err file_fault.Failed, record { call = call; told = told }, (c.args.target, refl, because)), c.deliver-in-Err-Failed.ensures)

pub returns-in-Err-OutOfMemory : goal.returns-in-Err-OutOfMemory
returns-in-Err-OutOfMemory g c =
    let call = rw c.in-Err-OutOfMemory.field-0-is at c.in-Err-OutOfMemory.ensures.call in
    let told = rw c.in-Err-OutOfMemory.field-0-is at c.in-Err-OutOfMemory.ensures.told in
    (fault_answer OutOfMemory, (Err file_fault.OutOfMemory, record { call = call; told = told }, refl), c.deliver-in-Err-OutOfMemory.ensures)
