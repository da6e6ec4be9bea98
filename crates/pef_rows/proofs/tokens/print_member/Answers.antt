-- The key, the text, the bytes, and the end.
use Rattle.std.proofs.Common.{◌∷◌, [], ◌++◌}
use Rattle.pef_rows.specs.Strings.{string_text}
use Rattle.pef_rows.specs.Tokens.{hex_member, name_member}
use Rattle.pef_ports.proofs.Laws.Sending.{Sends-short, Sends-then, StopsShort-longer, StopsShort-then}
use Rattle.pef_rows.proofs.tokens.print_member.Goals as goal

pub returns-in_err-print : goal.returns-in_err-print
unfolding name_member
returns-in_err-print g c =
    let name = c.args.name.now in
    Sends-short _ c.from_residual.result _ c.from_residual.ensures.1 (StopsShort-longer (string_text name ++ (hex_member c.args.key.now name ++ 34 ∷ [])) c.in_err-print.ensures)

pub returns-in_err-print_string : goal.returns-in_err-print_string
unfolding name_member
returns-in_err-print_string g c =
    Sends-short _ c.from_residual-in_err-print_string.result _ c.from_residual-in_err-print_string.ensures.1
    (StopsShort-then c.in_ok-print.ensures (StopsShort-longer (hex_member c.args.key.now c.args.name.now ++ 34 ∷ []) c.in_err-print_string.ensures))

pub returns-in_err-print_hex_member : goal.returns-in_err-print_hex_member
unfolding name_member
returns-in_err-print_hex_member g c =
    Sends-short _ c.from_residual-in_err-print_hex_member.result _ c.from_residual-in_err-print_hex_member.ensures.1
    (StopsShort-then c.in_ok-print.ensures (StopsShort-then c.in_ok-print_string.ensures (StopsShort-longer (34 ∷ []) c.in_err-print_hex_member.ensures)))

pub returns : goal.returns
unfolding name_member
returns g c =
    let stream = g.W.Sink.stream c.send.new.out in
    Sends-then c.send.result stream _ _ c.in_ok-print.ensures
    (Sends-then c.send.result stream _ _ c.in_ok-print_string.ensures
    (Sends-then c.send.result stream _ _ c.in_ok-print_hex_member.ensures c.send.ensures))
