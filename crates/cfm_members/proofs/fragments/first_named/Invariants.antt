-- The rows left decide.
use Rattle.std.proofs.Common.{◌≡◌}
use Rattle.cfm_members.specs.Fragments.{first_named}
use Rattle.cfm_members.specs.Members.{all_members}
use Rattle.cfm_members.specs.Views.{left, table_seen}
use Rattle.cfm_members.proofs.fragments.first_named.Given as goal

abbrev pub invariant-loop-row : goal.invariant-loop-row
invariant-loop-row l = first_named l.name (left l.row-iterator) ≡ first_named l.name (all_members (table_seen l.table))
