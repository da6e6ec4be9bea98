-- An allocation that failed is the one error of the file itself.
use Rattle.std.proofs.Common.{codes, refl}
use Rattle.mac_rows.specs.Unread.{unread_text}
use Rattle.pef_faults.specs.Faults.{fault_name, fault_number, fault_reason}
use Rattle.pef_tool.proofs.inspect.print_found.Goals as goal

pub returns-in-Lacking : goal.returns-in-Lacking
unfolding fault_name fault_number fault_reason
returns-in-Lacking g c =
    let beside = c.args.beside in
    rw c.in-Lacking.is (unread_text beside.form beside.data_file.path.now 99 (codes "OutOfMemory"), 1, (refl, refl), c.print_unread.ensures.sent, c.print_unread.ensures.one)
