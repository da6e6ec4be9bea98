-- No more rows than the table says that it has members.
use Rattle.cfm_members.specs.Views.{table_seen}
use Rattle.cfm_members.proofs.MemberLemmas.{all_few}
use Rattle.cfm_members.proofs.table.FragmentTable.members.Goals as goal

pub returns-clause-few : goal.returns-clause-few
returns-clause-few c = all_few (table_seen c.args.self)
