use Rattle.std.proofs.Common.{◌≡◌, ◌++◌, drop}
use Rattle.cfm_prepare.specs.Kept.Users.{unshared_among}
use Rattle.cfm_prepare.proofs.users.unshared_among.Given as goal

abbrev pub invariant-loop-position : goal.invariant-loop-position
invariant-loop-position l = l.unshared.items ++ unshared_among l.users (drop l.position-index l.order) ≡ unshared_among l.users l.order
