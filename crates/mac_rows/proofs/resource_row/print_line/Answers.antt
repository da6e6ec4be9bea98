-- The beginning and the rest.
use Rattle.pef_ports.proofs.Laws.Sending.{Sends-short, Sends-then, StopsShort-longer}
use Rattle.mac_rows.proofs.resource_row.print_line.Goals as goal

pub returns-in_err-print_start : goal.returns-in_err-print_start
returns-in_err-print_start g c =
    Sends-short _ c.from_residual.result _ c.from_residual.ensures.1 (StopsShort-longer _ (rw (c.contents_at-at.ensures, c.to_be_bytes.ensures) at c.in_err-print_start.ensures))

pub returns : goal.returns
returns g c =
    let stream = g.W.Sink.stream c.print_rest.new.out in
    Sends-then c.print_rest.result stream _ _ (rw (c.contents_at-at.ensures, c.to_be_bytes.ensures) at c.in_ok-print_start.ensures) c.print_rest.ensures
