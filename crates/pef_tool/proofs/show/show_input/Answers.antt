-- The input is read whole, and its script decides.
use Rattle.std.proofs.Common.{refl}
use Rattle.pef_faults.specs.declared.fault.Fault.TheVariants.{Input}
use Rattle.pef_tool.specs.Answers.Faults.{fault_answer}
use Rattle.pef_tool.specs.Show.{refuses, show_answer}
use Rattle.pef_tool.proofs.EndLemmas.{ends_with, fault_ends, no_script_shown}
use Rattle.pef_tool.proofs.show.show_input.Goals as goal

pub returns-in-Err : goal.returns-in-Err
returns-in-Err g c =
    let before = g.R.Source.stream c.args.input.now in
    let after = g.R.Source.stream c.read_input.new.input in
    let why = Input c.in-Err.fault in
    (fault_answer why, (refuses why, fault_ends before after c.in-Err.fault c.in-Err.ensures, refl), c.deliver.ensures)

pub returns-in-Ok-link_text : goal.returns-in-Ok-link_text
returns-in-Ok-link_text g c =
    let before = g.R.Source.stream c.args.input.now in
    let after = g.R.Source.stream c.read_input.new.input in
    let links = c.in-Ok-link_text.ensures in
    let shown = c.show_linked.ensures links.0 links.2 in
    let ends = ends_with before after c.in-Ok.text c.as_slice.result.now c.in-Ok.ensures c.as_slice.ensures.value links.0 shown.0 links.1 shown.1 in
    (show_answer shown.0, (shown.0, ends, refl), shown.2)

pub returns : goal.returns
returns g c =
    let before = g.R.Source.stream c.args.input.now in
    let after = g.R.Source.stream c.read_input.new.input in
    let why = c.in-Err-link_text.fault in
    let ends = no_script_shown before after c.in-Ok.text c.as_slice.result.now c.in-Ok.ensures c.as_slice.ensures.value why c.in-Err-link_text.ensures in
    (fault_answer why, (refuses why, ends, refl), c.deliver-in-Err-link_text.ensures)
