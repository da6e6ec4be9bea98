-- The words after the first one have the bytes of the program.
use Rattle.std.proofs.Common.{sym, ap, ◌∙◌}
use Rattle.std.proofs.lemmas.Result.{err_from_is_err_and}
use Rattle.std.specs.Prelude.{codes}
use Rattle.pef_lines.specs.Cursor.{behind}
use Rattle.pef_cert.proofs.TextProofs.ProgramLemmas.{program_fails, program_taken}
use Rattle.pef_cert.proofs.text.program.program_line.Goals as goal

pub returns-in_err-bytes : goal.returns-in_err-bytes
returns-in_err-bytes c =
    let p = err_from_is_err_and c.from_residual.result c.from_residual.ensures.1 in
    let first = ap (behind (codes "program")) (sym c.new-words.ensures) ∙ sym c.in-Some.ensures in
    rw (p.1, p.2) (program_fails c.in_err-bytes.field-0.0 c.args.line.number c.args.halfwords c.args.line.bytes.now _ first c.in_err-bytes.ensures)

pub returns : goal.returns
returns c =
    let first = ap (behind (codes "program")) (sym c.new-words.ensures) ∙ sym c.in-Some.ensures in
    program_taken _ c.args.line.number c.args.halfwords c.args.line.bytes.now c.in_ok-bytes.bytes.items _ first c.in_ok-bytes.ensures (rw c.deref.ensures.value at c.program_in.ensures)
