-- The fork that was read has this resource.
use Rattle.std.proofs.Common.{◌≡◌, ℤ, Some, sym, subst}
use Rattle.std.proofs.lemmas.Int.{to_z-of_z}
use Rattle.std.specs.Int.{w16}
use Rattle.mac_resources.specs.Resources.{resource_with}
use Rattle.mac_resources.specs.Views.{fork_seen, resource_seen}
use Rattle.pef_c.proofs.files.resources.pef_find_resource.Goals as goal

pub returns-in-Some : goal.returns-in-Some
returns-in-Some c =
    let P : ℤ → Type 0 = λ id. Some (resource_seen c.in-Some.found) ≡ resource_with (fork_seen c.in-Ok.fork) c.args.type_code id in
    let found = subst P (to_z-of_z w16 c.args.id c.ranges.id) c.in-Some.ensures in
    (fork_seen c.in-Ok.fork, resource_seen c.in-Some.found, sym c.in-Ok.ensures, sym found, c.resource_given.ensures)
