-- A file that wasn't read has one error.
use Rattle.std.proofs.Common.{◌∙◌, List, ℕ, ap, ap₂, refl}
use Rattle.mac_rows.specs.Unread.{unread_because}
use Rattle.pef_ports.specs.declared.ports.FileReason.{FileReason}
use Rattle.pef_tool.proofs.inspect.print_report.Goals as goal

pub returns-in-Err : goal.returns-in-Err
returns-in-Err g c =
    let report = unread_because c.args.shown.form c.args.named.now.path.now in
    let name = c.as_bytes.result.now in
    let why = c.reason.result in
    let same = ap (λ (said : FileReason → List ℕ). said why) (ap₂ report c.number.ensures (c.as_bytes.ensures.value ∙ c.name.ensures)) in
    let is = same ∙ ap (report _ _) c.reason.ensures in
    rw c.in-Err.is (report c.number.result name why, 1, (is, refl), c.print_unread.ensures.sent, c.print_unread.ensures.one)
