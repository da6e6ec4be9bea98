-- The rows left decide.
use Rattle.std.proofs.Common.{◌≡◌}
use Rattle.cfm_members.specs.Contents.{first_member_rest}
use Rattle.cfm_members.specs.Members.{all_members}
use Rattle.cfm_members.specs.Views.{left, table_seen}
use Rattle.cfm_members.proofs.contents.first_member_rest.Given as goal

abbrev pub invariant-loop-row : goal.invariant-loop-row
invariant-loop-row l = first_member_rest l.fork l.most l.place (left l.row-iterator) ≡ first_member_rest l.fork 256 l.place (all_members (table_seen l.table))
