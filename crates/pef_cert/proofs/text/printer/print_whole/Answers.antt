-- The rest of the page is written last.
use Rattle.std.proofs.Common.{[], List, ℕ, subst, append-nil}
use Rattle.pef_cert.specs.Text.Printed.{certificates_text}
use Rattle.pef_ports.specs.Sent.{Prints, Sends}
use Rattle.pef_ports.proofs.Laws.Sending.{Sends-empty, Sends-then}
use Rattle.pef_cert.proofs.text.printer.print_whole.Goals as goal

pub returns : goal.returns
returns g c =
    let stream = g.W.Sink.stream in
    let text = certificates_text c.args.certificates.now in
    let out = stream c.flush.new.out in
    let P : List ℕ → Type 0 = λ (page : List ℕ). Prints (stream c.args.out.now) (stream c.print_to.new.out) page c.print_to.new.page.items text in
    let Q : List ℕ → Type 0 = λ (t : List ℕ). Sends c.flush.result (stream c.args.out.now) out [] [] t in
    subst Q (append-nil text) (Sends-then c.flush.result out [] [] (subst P c.new-page.ensures c.in_ok-print_to.ensures)
    (Sends-empty c.flush.result (stream c.print_to.new.out) out c.print_to.new.page.items _ [] c.flush.ensures.empty c.flush.ensures.sends))
