-- The files have their paths, and are written, or an allocation failed before.
use Rattle.std.proofs.Common.{◌∙◌, List, ap, inl, inr, map, refl, subst}
use Rattle.cfm_files.specs.Sections.{file_seen, section_files}
use Rattle.cfm_files.specs.Writing.{FileIs}
use Rattle.cfm_files.specs.declared.sections.SectionFile.{SectionFile}
use Rattle.pef_faults.specs.declared.fault.Fault.TheVariants.{OutOfMemory}
use Rattle.pef_ports.specs.Ports.{FilesPort}
use Rattle.pef_tool.specs.Answers.Answers.{answer_done}
use Rattle.pef_tool.specs.Answers.Faults.{fault_answer}
use Rattle.pef_tool.specs.Kept.Supplying.{supplied_text}
use Rattle.pef_tool.specs.Writing.{WritesThenAnswers}
use Rattle.pef_tool.proofs.prepare.deliver_with_files.Goals as goal

pub returns-in-Ok : goal.returns-in-Ok
returns-in-Ok g c =
    let port : FilesPort _ = record { state = g.F.Files.state; reason = g.F.Files.reason; was_read = g.F.Files.was_read; was_written = g.F.Files.was_written } in
    let shown = c.args.shown.now in
    let answer = c.write_then_deliver.ensures.0 in
    let files = ap (λ (fs : List SectionFile). map file_seen fs) c.as_slice.ensures.value ∙ c.in-Ok.ensures ∙ ap (section_files shown.loaded.context c.args.folder.now) c.order_of-order.ensures in
    let P : List FileIs → Type 0 = λ fs. WritesThenAnswers port c.args.files.now c.write_then_deliver.new.files fs (answer_done (supplied_text shown)) answer in
    (answer, inl (subst P files c.write_then_deliver.ensures.1), c.write_then_deliver.ensures.2)

pub returns-in-Err : goal.returns-in-Err
returns-in-Err g c = (fault_answer OutOfMemory, inr (refl, refl), c.deliver.ensures)
