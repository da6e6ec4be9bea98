-- Whatever the places left give, all places give.
use Rattle.std.proofs.Common.{◌≤◌, List, ℕ, Option, length}
use Rattle.pef_ports.specs.Ports.{FilesPort}
use Rattle.pef_tool.specs.Companions.{CompanionIs, Looks, mirrors_before}
use Rattle.pef_tool.proofs.companion.look_above.Given as goal

abbrev pub invariant-loop-end : goal.invariant-loop-end
invariant-loop-end g l =
    let port : FilesPort _ = record { state = g.F.Files.state; reason = g.F.Files.reason; was_read = g.F.Files.was_read; was_written = g.F.Files.was_written } in
    let folder = l.path.folder.now in
    let name = l.path.name.now in record {
      inside : l.end ≤ length folder;
      looks : (own : List ℕ) (last : _) (companion : Option CompanionIs)
          → Looks port own l.files last (mirrors_before folder name l.end) companion → Looks port own l.fn.files last (mirrors_before folder name (length folder)) companion;
    }

abbrev pub decreases-loop-end : goal.decreases-loop-end
decreases-loop-end g l = l.end
