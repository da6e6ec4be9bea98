-- The bytes that wait are written first, and then the bytes that don't fit into the page.
use Rattle.std.proofs.Common.{◌≡◌, [], rules}
use Rattle.pef_ports.proofs.Laws.Sending.{Sends-short, Sends-then, StopsShort-longer}
use Rattle.pef_ports.proofs.page.send_anew.Goals as goal

pub returns-in_err-flush : goal.returns-in_err-flush
returns-in_err-flush g c = Sends-short _ c.from_residual.result _ c.from_residual.ensures.1 (StopsShort-longer c.args.bytes.now c.in_err-flush.ensures.sends)

pub returns : goal.returns
returns g c =
    let out = c.in_ok-flush.ensures.sends in
    let empty : c.flush.new.page.items ≡ [] = search rules in
    let empty_still : c.append.new.self.items ≡ c.flush.new.page.items = search rules in
    rw (empty_still) (Sends-then c.write_all.result (g.W.Sink.stream c.write_all.new.out) c.flush.new.page.items c.args.bytes.now out (rw (empty) c.write_all.ensures))
