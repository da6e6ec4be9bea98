-- Each file is read after the others.
use Rattle.std.proofs.Common.{◌+◌, ◌++◌, ◌∷◌, [], List, map, sym, subst, take, ap, ◌∙◌}
use Rattle.std.proofs.lemmas.List.{map_push}
use Rattle.pef_gather.specs.Gathered.{Given}
use Rattle.pef_ports.specs.Ports.{FilesPort}
use Rattle.pef_tool.specs.Gathering.{WereGathered}
use Rattle.pef_tool.specs.Kept.Gathering.{read_seen, wanted_seen}
use Rattle.pef_tool.proofs.GatheringLemmas.{gathered-next, gathering-lacks, gathering-stops}
use Rattle.pef_tool.proofs.gathering.read_wanted.Goals as goal

pub returns-in-Err-clause-refused : goal.returns-in-Err-clause-refused
returns-in-Err-clause-refused g c =
    let at = c.loop-file in
    let port : FilesPort _ = record { state = g.F.Files.state; reason = g.F.Files.reason; was_read = g.F.Files.was_read; was_written = g.F.Files.was_written } in
    gathering-stops port c.args.files.now at.files c.read_one.new.files c.args.wanted.now at.file-index _ (map read_seen at.read.items) c.in-Err.fault c.loop-file-test.true at.invariant c.in-Err.ensures.refused

pub loop-file-preserved : goal.loop-file-preserved
loop-file-preserved g c =
    let at = c.loop-file in
    let port : FilesPort _ = record { state = g.F.Files.state; reason = g.F.Files.reason; was_read = g.F.Files.was_read; was_written = g.F.Files.was_written } in
    let Q : List Given → Type 0 = λ given. WereGathered port c.args.files.now c.read_one.new.files (map wanted_seen (take (at.file-index + 1) c.args.wanted.now)) given in
    let more = gathered-next port c.args.files.now at.files c.read_one.new.files c.args.wanted.now at.file-index _ (map read_seen at.read.items) (read_seen c.in-Ok.more) c.loop-file-test.true at.invariant c.in-Ok.ensures.read in
    subst Q (sym (ap (map read_seen) c.in-Ok-push.ensures.items ∙ map_push read_seen at.read.items c.in-Ok.more)) more

pub returns-in_default-clause-refused : goal.returns-in_default-clause-refused
returns-in_default-clause-refused g c =
    let at = c.loop-file in
    let port : FilesPort _ = record { state = g.F.Files.state; reason = g.F.Files.reason; was_read = g.F.Files.was_read; was_written = g.F.Files.was_written } in
    let given = map read_seen at.read.items in
    let more = gathered-next port c.args.files.now at.files c.read_one.new.files c.args.wanted.now at.file-index _ given (read_seen c.in-Ok.more) c.loop-file-test.true at.invariant c.in-Ok.ensures.read in
    gathering-lacks port c.args.files.now c.read_one.new.files c.args.wanted.now (at.file-index + 1) (given ++ read_seen c.in-Ok.more ∷ []) more
