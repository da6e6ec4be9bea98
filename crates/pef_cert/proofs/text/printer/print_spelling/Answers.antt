-- One halfword, and then the other if there is one.
use Rattle.pef_reloc.specs.Instrs.{halfword_bytes}
use Rattle.std.proofs.Common.{[], ◌∷◌}
use Rattle.std.specs.Option.{option_to_list}
use Rattle.pef_ports.proofs.Laws.Sending.{Sends-short, Sends-then, StopsShort-longer}
use Rattle.pef_cert.specs.Text.Printed.{halfword_words, words_text}
use Rattle.pef_cert.proofs.text.printer.print_spelling.Goals as goal

pub returns-in_err-print_halfword : goal.returns-in_err-print_halfword
returns-in_err-print_halfword g c =
    Sends-short _ c.from_residual.result _ c.from_residual.ensures.1 (StopsShort-longer (words_text (halfword_words (halfword_bytes (option_to_list c.args.spelling.second)))) c.in_err-print_halfword.ensures)

pub returns-in-Some : goal.returns-in-Some
returns-in-Some g c =
    rw c.in-Some.is (Sends-then c.print_halfword-in-Some.result _ _ (words_text (halfword_words (halfword_bytes (c.in-Some.second ∷ [])))) c.in_ok-print_halfword.ensures c.print_halfword-in-Some.ensures)
