-- In a report without errors no container has one.
use Rattle.mac_report.proofs.QuietLemmas.{quiet_are_sound}
use Rattle.mac_report.proofs.theorems.reports_without_errors_are_right.Goals as goal

pub returns : goal.returns
returns c = quiet_are_sound
