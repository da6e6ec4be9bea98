-- The rows in order are those with these numbers.
use Rattle.cfm_members.specs.Views.{left}
use Rattle.pef_records.specs.Files.Rows.{member_row}
use Rattle.pef_records.proofs.RowLemmas.{filled_rows}
use Rattle.pef_records.proofs.files.members.fill_members.Goals as goal

pub returns : goal.returns
returns c = filled_rows (member_row c.args.data_fork.now) (left c.args.rows) c.args.from _ _ _ c.fill_rows.ensures
