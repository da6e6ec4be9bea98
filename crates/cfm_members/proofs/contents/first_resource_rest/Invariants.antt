-- The rows left decide.
use Rattle.std.proofs.Common.{◌≡◌}
use Rattle.mac_resources.specs.Resources.{all_resources}
use Rattle.mac_resources.specs.Views.{fork_seen, left}
use Rattle.cfm_members.specs.Contents.{first_resource_rest}
use Rattle.cfm_members.proofs.contents.first_resource_rest.Given as goal

abbrev pub invariant-loop-row : goal.invariant-loop-row
invariant-loop-row l = first_resource_rest l.most l.place (left l.row-iterator) ≡ first_resource_rest 4096 l.place (all_resources (fork_seen l.resources))
