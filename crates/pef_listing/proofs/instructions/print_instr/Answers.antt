-- The halfwords, the kind, the numbers, and the end of the line.
use Rattle.std.proofs.Common.{◌∷◌, [], ap, subst}
use Rattle.pef_listing.specs.Instructions.{halfwords_text, instr_text, kind_name, numbers_of, numbers_text}
use Rattle.pef_ports.specs.Sent.{Prints, StopsShort}
use Rattle.pef_ports.proofs.Laws.Sending.{Prints-then, Sends-short, Sends-then, StopsShort-longer, StopsShort-then}
use Rattle.pef_listing.proofs.instructions.print_instr.Goals as goal

pub returns-in_err-print_halfwords : goal.returns-in_err-print_halfwords
unfolding instr_text
returns-in_err-print_halfwords g c =
    let instr = c.args.instr in
    let stream = g.W.Sink.stream in
    let short = subst (StopsShort (stream c.args.out.now) (stream c.print_halfwords.new.out) c.args.page.now.items) (ap halfwords_text c.spelling.ensures) c.in_err-print_halfwords.ensures in
    Sends-short _ c.from_residual.result _ c.from_residual.ensures.1 (StopsShort-longer (10 ∷ []) (StopsShort-longer (numbers_text (numbers_of instr)) (StopsShort-longer (kind_name instr) short)))

pub returns-in_err-send : goal.returns-in_err-send
unfolding instr_text
returns-in_err-send g c =
    let instr = c.args.instr in
    let stream = g.W.Sink.stream in
    let halfwords = subst (Prints (stream c.args.out.now) (stream c.print_halfwords.new.out) c.args.page.now.items c.print_halfwords.new.page.items) (ap halfwords_text c.spelling.ensures) c.in_ok-print_halfwords.ensures in
    let short = subst (StopsShort (stream c.print_halfwords.new.out) (stream c.send.new.out) c.print_halfwords.new.page.items) c.kind_name.ensures c.in_err-send.ensures in
    Sends-short _ c.from_residual-in_err-send.result _ c.from_residual-in_err-send.ensures.1 (StopsShort-longer (10 ∷ []) (StopsShort-longer (numbers_text (numbers_of instr)) (StopsShort-then halfwords short)))

pub returns-in_err-print_numbers : goal.returns-in_err-print_numbers
unfolding instr_text
returns-in_err-print_numbers g c =
    let stream = g.W.Sink.stream in
    let halfwords = subst (Prints (stream c.args.out.now) (stream c.print_halfwords.new.out) c.args.page.now.items c.print_halfwords.new.page.items) (ap halfwords_text c.spelling.ensures) c.in_ok-print_halfwords.ensures in
    let kind = subst (Prints (stream c.print_halfwords.new.out) (stream c.send.new.out) c.print_halfwords.new.page.items c.send.new.page.items) c.kind_name.ensures c.in_ok-send.ensures in
    Sends-short _ c.from_residual-in_err-print_numbers.result _ c.from_residual-in_err-print_numbers.ensures.1 (StopsShort-longer (10 ∷ []) (StopsShort-then (Prints-then halfwords kind) c.in_err-print_numbers.ensures))

pub returns : goal.returns
unfolding instr_text
returns g c =
    let stream = g.W.Sink.stream in
    let halfwords = subst (Prints (stream c.args.out.now) (stream c.print_halfwords.new.out) c.args.page.now.items c.print_halfwords.new.page.items) (ap halfwords_text c.spelling.ensures) c.in_ok-print_halfwords.ensures in
    let kind = subst (Prints (stream c.print_halfwords.new.out) (stream c.send.new.out) c.print_halfwords.new.page.items c.send.new.page.items) c.kind_name.ensures c.in_ok-send.ensures in
    Sends-then c.send-2.result (stream c.send-2.new.out) c.send-2.new.page.items (10 ∷ []) (Prints-then (Prints-then halfwords kind) c.in_ok-print_numbers.ensures) c.send-2.ensures
