-- The places in order are those with these numbers.
use Rattle.cfm_members.specs.Views.{places_left}
use Rattle.pef_records.proofs.RowLemmas.{filled_alone}
use Rattle.pef_records.proofs.files.members.fill_places.Goals as goal

pub returns : goal.returns
returns c = filled_alone (places_left c.args.found) c.args.from _ _ _ c.fill_rows.ensures
