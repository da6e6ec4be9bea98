-- An allocation may fail before the report.
use Rattle.std.proofs.Common.{codes, inr, refl}
use Rattle.mac_rows.specs.Unread.{unread_counts, unread_text}
use Rattle.mac_report.proofs.file.FileReport.print.Goals as goal

pub returns-in-Err : goal.returns-in-Err
returns-in-Err g c =
    (unread_text c.args.self.form c.args.self.path.now 99 (codes "OutOfMemory"), unread_counts, inr (refl, refl), c.print_lacking.ensures.sent, c.print_lacking.ensures.counts)
