-- Whatever the places left give, all places give.
use Rattle.std.proofs.Common.{List, ℕ, Option, drop, map}
use Rattle.pef_ports.specs.Ports.{FilesPort}
use Rattle.pef_tool.specs.Companions.{CompanionIs, Looks}
use Rattle.pef_tool.specs.Kept.Inspecting.{place_seen}
use Rattle.pef_tool.specs.declared.companion.CompanionPlace.{CompanionPlace}
use Rattle.pef_tool.proofs.companion.look_at_places.Given as goal

abbrev pub invariant-loop-place : goal.invariant-loop-place
invariant-loop-place g l =
    let port : FilesPort _ = record { state = g.F.Files.state; reason = g.F.Files.reason; was_read = g.F.Files.was_read; was_written = g.F.Files.was_written } in
    let seen : CompanionPlace → List ℕ = place_seen l.path.folder.now l.path.name.now in
    (own : List ℕ) (last : _) (companion : Option CompanionIs)
    → Looks port own l.files last (map seen (drop l.place-index l.places)) companion → Looks port own l.fn.files last (map seen l.places) companion
