-- SCRIPT is read and linked, and the certificates of its sections are printed.
use Rattle.std.proofs.Common.{refl}
use Rattle.pef_cert.specs.Text.Printed.{certificates_text}
use Rattle.pef_tool.specs.Answers.Answers.{answer_done}
use Rattle.pef_tool.specs.Answers.Faults.{fault_answer}
use Rattle.pef_tool.specs.Distances.{certifies, refuses}
use Rattle.pef_tool.proofs.DistancesLemmas.{file_certified}
use Rattle.pef_tool.proofs.OutcomeLemmas.{unlinked, unread_linking}
use Rattle.pef_tool.proofs.distances.print_distances.Goals as goal

pub returns-in-Err : goal.returns-in-Err
returns-in-Err g c =
    let why = c.in-Err.fault in
    (fault_answer why, (refuses why, unread_linking _ c.args.files.now c.read_file.new.files c.args.script.now why c.in-Err.ensures.refused, refl), c.deliver.ensures)

pub returns-in-Err-certify_text : goal.returns-in-Err-certify_text
returns-in-Err-certify_text g c =
    let why = c.in-Err-certify_text.fault in
    let refused = unlinked _ c.args.files.now c.read_file.new.files c.args.script.now c.in-Ok.text.items c.as_slice.result.now why c.in-Ok.ensures.read c.as_slice.ensures.value c.in-Err-certify_text.ensures in
    (fault_answer why, (refuses why, refused, refl), c.deliver-in-Err-certify_text.ensures)

pub returns : goal.returns
returns g c =
    let certified = c.in-Ok-certify_text.ensures in
    let certificates = c.in-Ok-certify_text.certificates in
    let file = file_certified c.as_slice.result.now certified.0 c.in-Ok.ensures.read c.as_slice.ensures.value certified.1 certified.2.certified in
    (answer_done (certificates_text certificates), (certifies certificates, file, refl), c.deliver-2.ensures)
