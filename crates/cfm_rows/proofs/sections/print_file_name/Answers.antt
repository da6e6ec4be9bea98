-- Each byte sends its text.
use Rattle.std.proofs.Common.{◌∙◌, ◌+◌, List, ℕ, ap, drop, get_or}
use Rattle.std.proofs.lemmas.List.{at_drop_more, drop_all}
use Rattle.pef_ports.proofs.Laws.Sending.{Sends-short, same_printed, same_short, sent-all, sent-nothing, sent-piece, sent-short}
use Rattle.cfm_files.specs.Paths.{file_byte, file_name}
use Rattle.pef_rows.specs.Tokens.{path_text}
use Rattle.cfm_rows.proofs.PathLemmas.{path_text-append}
use Rattle.cfm_rows.proofs.sections.print_file_name.Goals as goal

abbrev named : List ℕ → List ℕ
named name = path_text (file_name name)

pub loop-b-init : goal.loop-b-init
loop-b-init g c = sent-nothing (g.W.Sink.stream c.args.out.now) c.args.page.now.items (named c.args.fragment.now)

pub returns-in_err-print_path : goal.returns-in_err-print_path
returns-in_err-print_path g c =
    let at = c.loop-b in
    let name = c.args.fragment.now in
    let rest = drop (at.b-index + 1) name in
    let byte = file_byte (get_or name at.b-index 0) in
    let next = at_drop_more named name at.b-index 0 c.loop-b-test.true ∙ path_text-append byte (file_name rest) in
    let text = ap path_text (c.as_slice.ensures.value ∙ c.file_byte.ensures) in
    Sends-short _ c.from_residual.result _ c.from_residual.ensures.1 (sent-short (named rest) at.invariant next (same_short text c.in_err-print_path.ensures))

pub loop-b-preserved : goal.loop-b-preserved
loop-b-preserved g c =
    let at = c.loop-b in
    let name = c.args.fragment.now in
    let rest = drop (at.b-index + 1) name in
    let byte = file_byte (get_or name at.b-index 0) in
    let next = at_drop_more named name at.b-index 0 c.loop-b-test.true ∙ path_text-append byte (file_name rest) in
    let text = ap path_text (c.as_slice.ensures.value ∙ c.file_byte.ensures) in
    sent-piece (named rest) at.invariant next (same_printed text c.in_ok-print_path.ensures)

pub returns : goal.returns
returns g c = sent-all c.loop-b.invariant (ap named (drop_all c.loop-b.b-index c.args.fragment.now c.loop-b-test.false))
