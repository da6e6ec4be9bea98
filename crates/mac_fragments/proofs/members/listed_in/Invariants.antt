-- The rows left decide.
use Rattle.std.proofs.Common.{◌≡◌, []}
use Rattle.cfm_members.specs.Members.{all_members}
use Rattle.cfm_members.specs.Views.{left, table_seen}
use Rattle.mac_fragments.specs.Fragments.{listed}
use Rattle.mac_fragments.specs.Views.{forks_seen, fragments_seen}
use Rattle.mac_fragments.proofs.members.listed_in.Given as goal

abbrev pub invariant-loop-row : goal.invariant-loop-row
invariant-loop-row l = listed (forks_seen l.forks) (fragments_seen l.found) (left l.row-iterator) ≡ listed (forks_seen l.forks) [] (all_members (table_seen l.table))
