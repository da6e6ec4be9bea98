-- The folders above come after the same folder.
use Rattle.std.proofs.Common.{length}
use Rattle.pef_ports.specs.Ports.{FilesPort}
use Rattle.pef_tool.specs.Companions.{companion_places, mirrors_before, near_places}
use Rattle.pef_tool.specs.Kept.Inspecting.{companion_seen}
use Rattle.pef_tool.proofs.MirrorLemmas.{looks_no_further, looks_on}
use Rattle.pef_tool.proofs.companion.find_companion.Goals as goal

pub returns-in-Some : goal.returns-in-Some
unfolding companion_places
returns-in-Some g c =
    let port : FilesPort _ = record { state = g.F.Files.state; reason = g.F.Files.reason; was_read = g.F.Files.was_read; was_written = g.F.Files.was_written } in
    let path = c.args.path.now in
    let folder = c.of-split.result.folder.now in
    let name = c.of-split.result.name.now in
    let all = looks_no_further port path (near_places folder name) (mirrors_before folder name (length folder)) c.args.files.now c.look_near.new.files (companion_seen path c.in-Some.companion) (c.in-Some.ensures path) in
    rw (c.of-split.ensures.folder, c.of-split.ensures.name) at all

pub returns-in-None : goal.returns-in-None
unfolding companion_places
returns-in-None g c =
    let port : FilesPort _ = record { state = g.F.Files.state; reason = g.F.Files.reason; was_read = g.F.Files.was_read; was_written = g.F.Files.was_written } in
    let path = c.args.path.now in
    let folder = c.of-split.result.folder.now in
    let name = c.of-split.result.name.now in
    let all = looks_on port path (near_places folder name) (mirrors_before folder name (length folder)) c.args.files.now c.look_near.new.files c.look_above.new.files _ (c.in-None.ensures path) (c.look_above.ensures path) in
    rw (c.of-split.ensures.folder, c.of-split.ensures.name) at all
