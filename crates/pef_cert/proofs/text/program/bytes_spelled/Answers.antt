-- Words that aren't `-` spell halfwords.
use Rattle.std.proofs.lemmas.Result.{err_from_is_err_and}
use Rattle.std.proofs.Common.{Err, Ok}
use Rattle.pef_lines.specs.Views.{words_left}
use Rattle.pef_cert.proofs.TextProofs.ProgramLemmas.{halfwords_say}
use Rattle.pef_cert.proofs.text.program.bytes_spelled.Goals as goal

pub returns-in_err-append_halfwords : goal.returns-in_err-append_halfwords
returns-in_err-append_halfwords c =
    let p = err_from_is_err_and c.from_residual.result c.from_residual.ensures.1 in
    let other = rw c.as_slice.ensures at c.if-eq.ensures in
    rw (p.1, p.2) (halfwords_say (Err c.in_err-append_halfwords.field-0.0) c.args.line.number (words_left c.args.words) c.in-Some.first.now _ _ c.in-Some.ensures other c.new-bytes.ensures.items c.in_err-append_halfwords.ensures)

pub returns : goal.returns
returns c =
    let other = rw c.as_slice.ensures at c.if-eq.ensures in
    halfwords_say (Ok c.append_halfwords.new.bytes.items) c.args.line.number (words_left c.args.words) c.in-Some.first.now _ _ c.in-Some.ensures other c.new-bytes.ensures.items c.in_ok-append_halfwords.ensures
