-- UTF-8 is decided by its test.
use Rattle.std.proofs.lemmas.Str.{is_utf8-from_IsUtf8}
use Rattle.pef_rows.proofs.UnicodeLemmas.{not_utf8}
use Rattle.pef_rows.proofs.unicode.print_text_value.Goals as goal

pub returns-in-Ok : goal.returns-in-Ok
returns-in-Ok g c = rw (is_utf8-from_IsUtf8 c.args.bytes.now c.in-Ok.ensures.cases.1) (rw c.in-Ok.ensures.cases.0 at c.print_quoted.ensures)

pub returns-in-Err : goal.returns-in-Err
returns-in-Err g c = rw (not_utf8 c.args.bytes.now c.in-Err.ensures.cases.0) c.send.ensures
