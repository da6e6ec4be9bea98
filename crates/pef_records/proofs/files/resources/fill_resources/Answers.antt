-- The rows in order are those with these numbers.
use Rattle.mac_resources.specs.Views.{left}
use Rattle.pef_records.specs.Files.Rows.{resource_row}
use Rattle.pef_records.proofs.RowLemmas.{filled_rows}
use Rattle.pef_records.proofs.files.resources.fill_resources.Goals as goal

pub returns : goal.returns
returns c = filled_rows resource_row (left c.args.rows) c.args.from _ _ _ c.fill_rows.ensures
