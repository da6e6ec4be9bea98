-- Each file is read after the others.
use Rattle.std.proofs.Common.{◌+◌, ◌++◌, ◌∷◌, [], List, ℕ, Ok, map, sym, subst, take, ap, ◌∙◌}
use Rattle.std.proofs.lemmas.List.{map_push}
use Rattle.std.specs.declared.alloc.Global.{Global}
use Rattle.std.specs.declared.vec.Vec.{Vec}
use Rattle.pef_ports.specs.Ports.{FilesPort, Reads}
use Rattle.pef_request.specs.Requests.{named_path}
use Rattle.pef_tool.specs.Reading.{StopsFile}
use Rattle.pef_tool.specs.Load.{WereRead}
use Rattle.pef_tool.proofs.LoadLemmas.{lacks-after, read-next, stops}
use Rattle.pef_tool.proofs.load.read_files.Goals as goal

pub returns-in-Err-clause-refused : goal.returns-in-Err-clause-refused
returns-in-Err-clause-refused g c =
    let at = c.loop-file in
    let port : FilesPort _ = record { state = g.F.Files.state; reason = g.F.Files.reason; was_read = g.F.Files.was_read; was_written = g.F.Files.was_written } in
    let P : List ℕ → Type 0 = λ path. StopsFile port at.files c.read_file.new.files path c.in-Err.fault in
    stops port c.args.files.now at.files c.read_file.new.files c.args.named.now at.file-index _ (map (λ bytes. bytes.items) at.contents.items) c.in-Err.fault c.loop-file-test.true at.invariant (subst P c.as_bytes.ensures.value c.in-Err.ensures.refused)

pub loop-file-preserved : goal.loop-file-preserved
loop-file-preserved g c =
    let at = c.loop-file in
    let port : FilesPort _ = record { state = g.F.Files.state; reason = g.F.Files.reason; was_read = g.F.Files.was_read; was_written = g.F.Files.was_written } in
    let items : Vec ℕ Global → List ℕ = λ bytes. bytes.items in
    let P : List ℕ → Type 0 = λ path. Reads port at.files c.read_file.new.files path (Ok c.in-Ok.bytes.items) in
    let Q : List (List ℕ) → Type 0 = λ contents. WereRead port c.args.files.now c.read_file.new.files (map named_path (take (at.file-index + 1) c.args.named.now)) contents in
    let more = read-next port c.args.files.now at.files c.read_file.new.files c.args.named.now at.file-index _ (map items at.contents.items) c.in-Ok.bytes.items c.loop-file-test.true at.invariant (subst P c.as_bytes.ensures.value c.in-Ok.ensures.read) in
    subst Q (sym (ap (map items) c.in-Ok-push.ensures.items ∙ map_push items at.contents.items c.in-Ok.bytes)) more

pub returns-in_default-clause-refused : goal.returns-in_default-clause-refused
returns-in_default-clause-refused g c =
    let at = c.loop-file in
    let port : FilesPort _ = record { state = g.F.Files.state; reason = g.F.Files.reason; was_read = g.F.Files.was_read; was_written = g.F.Files.was_written } in
    let items : Vec ℕ Global → List ℕ = λ bytes. bytes.items in
    let P : List ℕ → Type 0 = λ path. Reads port at.files c.read_file.new.files path (Ok c.in-Ok.bytes.items) in
    let contents = map items at.contents.items in
    let more = read-next port c.args.files.now at.files c.read_file.new.files c.args.named.now at.file-index _ contents c.in-Ok.bytes.items c.loop-file-test.true at.invariant (subst P c.as_bytes.ensures.value c.in-Ok.ensures.read) in
    lacks-after port c.args.files.now c.read_file.new.files c.args.named.now (at.file-index + 1) (contents ++ c.in-Ok.bytes.items ∷ []) more
