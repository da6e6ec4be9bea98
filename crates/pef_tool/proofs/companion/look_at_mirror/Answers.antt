-- The path that was made is that of the place.
use Rattle.std.proofs.Common.{List, ℕ, option_map, subst}
use Rattle.pef_ports.specs.Ports.{FilesPort}
use Rattle.pef_tool.specs.Companions.{LooksAt}
use Rattle.pef_tool.specs.Kept.Inspecting.{companion_seen}
use Rattle.pef_tool.proofs.companion.look_at_mirror.Goals as goal

pub returns-in-Ok : goal.returns-in-Ok
returns-in-Ok g c =
    let port : FilesPort _ = record { state = g.F.Files.state; reason = g.F.Files.reason; was_read = g.F.Files.was_read; was_written = g.F.Files.was_written } in
    λ own.
    let P : List ℕ → Type 0 = λ (place : List ℕ). LooksAt port own c.args.files.now c.read_companion.new.files place (option_map (companion_seen own) c.read_companion.result) in
    subst P c.in-Ok.ensures (c.read_companion.ensures own)
