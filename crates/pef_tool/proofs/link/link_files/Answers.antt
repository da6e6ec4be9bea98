-- SCRIPT is read and linked, and the whole container is written, whatever that write returns.
use Rattle.std.proofs.Common.{inr, refl}
use Rattle.pef_faults.specs.declared.fault.Fault.TheVariants.{Unwritable, OutOfMemory}
use Rattle.pef_tool.specs.Answers.Answers.{answer_done}
use Rattle.pef_tool.specs.Answers.Faults.{fault_answer}
use Rattle.pef_tool.specs.Link.{links, refuses, linked_text}
use Rattle.pef_tool.proofs.DistancesLemmas.{files_linked}
use Rattle.pef_tool.proofs.LinkLemmas.{written}
use Rattle.pef_tool.proofs.OutcomeLemmas.{refuses_link, unlinked, unread_linking}
use Rattle.pef_tool.proofs.link.link_files.Goals as goal

pub returns-in-Err : goal.returns-in-Err
returns-in-Err g c =
    let why = c.in-Err.fault in
    let files = c.args.files.now in
    let after = c.read_file.new.files in
    let refused = refuses_link _ files after c.args.script.now c.args.target.now why (unread_linking _ files after c.args.script.now why c.in-Err.ensures.refused) in
    (fault_answer why, (refuses why, refused, refl), c.deliver.ensures)

pub returns-in-Err-link_text : goal.returns-in-Err-link_text
returns-in-Err-link_text g c =
    let why = c.in-Err-link_text.fault in
    let files = c.args.files.now in
    let after = c.read_file.new.files in
    let script = c.args.script.now in
    let refused = refuses_link _ files after script c.args.target.now why (unlinked _ files after script c.in-Ok.text.items c.as_slice.result.now why c.in-Ok.ensures.read c.as_slice.ensures.value c.in-Err-link_text.ensures) in
    (fault_answer why, (refuses why, refused, refl), c.deliver-in-Err-link_text.ensures)

pub returns-in-Ok-write : goal.returns-in-Ok-write
returns-in-Ok-write g c =
    let l = c.in-Ok-link_text.linked in
    let links_file = files_linked c.as_slice.result.now c.in-Ok-link_text.ensures.0 c.in-Ok.ensures.read c.as_slice.ensures.value c.in-Ok-link_text.ensures.1 c.in-Ok-link_text.ensures.2 in
    let writes = written links_file c.bytes.ensures (record { call = c.in-Ok-write.ensures.call; told = c.in-Ok-write.ensures.told }) in
    (answer_done (linked_text l), (links l, writes, refl), c.deliver-in-Ok-write.ensures)

pub returns-in-Err-Failed : goal.returns-in-Err-Failed
returns-in-Err-Failed g c =
    let call = rw c.in-Err-Failed.field-0-is at c.in-Err-Failed.ensures.call in
    let told = rw c.in-Err-Failed.field-0-is at c.in-Err-Failed.ensures.told in
    let links_file = files_linked c.as_slice.result.now c.in-Ok-link_text.ensures.0 c.in-Ok.ensures.read c.as_slice.ensures.value c.in-Ok-link_text.ensures.1 c.in-Ok-link_text.ensures.2 in
    let writes = written links_file c.bytes.ensures (record { call = call; told = told }) in
    let fault = Unwritable c.args.target c.reason-reason.result in
    (fault_answer fault, (refuses fault, (refl, (c.in-Ok-link_text.linked, writes), c.reason-reason.ensures), refl), c.deliver-in-Err-Failed.ensures)

pub returns : goal.returns
returns g c =
    let call = rw c.in-Err-OutOfMemory.field-0-is at c.in-Err-OutOfMemory.ensures.call in
    let told = rw c.in-Err-OutOfMemory.field-0-is at c.in-Err-OutOfMemory.ensures.told in
    let links_file = files_linked c.as_slice.result.now c.in-Ok-link_text.ensures.0 c.in-Ok.ensures.read c.as_slice.ensures.value c.in-Ok-link_text.ensures.1 c.in-Ok-link_text.ensures.2 in
    let writes = written links_file c.bytes.ensures (record { call = call; told = told }) in
    (fault_answer OutOfMemory, (refuses OutOfMemory, inr (c.in-Ok-link_text.linked, writes), refl), c.deliver-in-Err-OutOfMemory.ensures)
