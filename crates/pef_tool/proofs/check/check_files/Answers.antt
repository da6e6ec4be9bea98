-- Both files are read, and their texts decide.
use Rattle.std.proofs.Common.{Ok, Err, refl}
use Rattle.pef_tool.specs.Answers.Faults.{fault_answer}
use Rattle.pef_tool.specs.Check.{judged_answer, judges, refuses}
use Rattle.pef_tool.proofs.CheckLemmas.{files_judged}
use Rattle.pef_tool.proofs.OutcomeLemmas.{check_refuses, check_refuses_later}
use Rattle.pef_tool.proofs.check.check_files.Goals as goal

pub returns-in-Err : goal.returns-in-Err
returns-in-Err g c =
    let why = c.in-Err.fault in
    (fault_answer why, (refuses why, check_refuses _ c.args.files.now c.read_file.new.files c.args.script.now c.args.cert.now why c.in-Err.ensures.refused, refl), c.deliver.ensures)

pub returns-in-Err-read_file : goal.returns-in-Err-read_file
returns-in-Err-read_file g c =
    let why = c.in-Err-read_file.fault in
    let refused = check_refuses_later _ c.args.files.now c.read_file-2.new.files c.read_file.new.files c.args.script.now c.args.cert.now c.in-Ok.text.items why c.in-Ok.ensures.read c.in-Err-read_file.ensures.refused in
    (fault_answer why, (refuses why, refused, refl), c.deliver-in-Err-read_file.ensures)

pub returns-in-Ok-check_texts : goal.returns-in-Ok-check_texts
returns-in-Ok-check_texts g c =
    let verdicts = c.in-Ok-check_texts.verdicts.verdicts.items in
    let ends = files_judged c.as_slice.result.now c.as_slice-2.result.now c.in-Ok.ensures.read c.in-Ok-read_file.ensures.read c.as_slice.ensures.value c.as_slice-2.ensures.value c.in-Ok-check_texts.ensures in
    (judged_answer (Ok verdicts), (judges (Ok verdicts), ends, refl), c.deliver-in-Ok-check_texts.ensures)

pub returns : goal.returns
returns g c =
    let why = c.in-Err-check_texts.fault in
    let ends = files_judged c.as_slice.result.now c.as_slice-2.result.now c.in-Ok.ensures.read c.in-Ok-read_file.ensures.read c.as_slice.ensures.value c.as_slice-2.ensures.value c.in-Err-check_texts.ensures in
    (fault_answer why, (judges (Err why), ends, refl), c.deliver-in-Err-check_texts.ensures)
