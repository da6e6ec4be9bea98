-- A reference with another id is passed over, and the first with the id ends the search.
use Rattle.std.proofs.Common.{◌≡◌, ◌∙◌, ◌<◌, None, Some, sym, ap, arith}
use Rattle.std.specs.Int.{w16, cast_signed, cast_unsigned}
use Rattle.std.specs.Prelude.{option_map}
use Rattle.std.proofs.lemmas.Int.{to_z-of_z}
use Rattle.pef_words.proofs.Laws.Refusals.{first_among-here, first_among-next}
use Rattle.mac_resources.specs.References.{list_count}
use Rattle.mac_resources.specs.Resources.{resource_here}
use Rattle.mac_resources.specs.Views.{fork_seen, resource_seen}
use Rattle.mac_resources.proofs.fork.ResourceFork.first_resource.Goals as goal

pub loop-row-preserved : goal.loop-row-preserved
loop-row-preserved c =
    let same : cast_signed w16 (cast_unsigned w16 c.args.id) ≡ c.args.id = search (arith, to_z-of_z) in
    let under : c.loop-row.row < list_count c.args.list.kind = omega arith in
    let here : resource_here (fork_seen c.args.self) c.args.list c.args.id c.loop-row.row ≡ None = rw same at (sym c.in-None.ensures) in
    let before = rw same at c.loop-row.invariant in
    rw same (sym (first_among-next (resource_here (fork_seen c.args.self) c.args.list c.args.id) _ _ under here) ∙ before)

pub returns-in-Some : goal.returns-in-Some
returns-in-Some c =
    let same : cast_signed w16 (cast_unsigned w16 c.args.id) ≡ c.args.id = search (arith, to_z-of_z) in
    let under : c.loop-row.row < list_count c.args.list.kind = omega arith in
    let here : resource_here (fork_seen c.args.self) c.args.list c.args.id c.loop-row.row ≡ Some (resource_seen c.in-Some.resource) =
    sym (rw same at c.resource_if.ensures) ∙ ap (option_map resource_seen) c.in-Some.is in
    let before = rw same at c.loop-row.invariant in
    sym (first_among-here (resource_here (fork_seen c.args.self) c.args.list c.args.id) _ _ (resource_seen c.in-Some.resource) under here) ∙ before
