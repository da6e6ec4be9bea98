-- All files are read, and then the first fragment is prepared.
use Rattle.std.proofs.Common.{◌≡◌, ◌<◌, List, ℕ, inl, length, map, refl, sym, ap, subst, ◌∙◌}
use Rattle.std.proofs.lemmas.List.{length-map}
use Rattle.std.specs.declared.alloc.Global.{Global}
use Rattle.std.specs.declared.vec.Vec.{Vec}
use Rattle.pef_ports.specs.Ports.{FilesPort}
use Rattle.pef_request.specs.Requests.{named_path}
use Rattle.pef_tool.specs.Answers.Answers.{Answer, IsDelivered}
use Rattle.pef_tool.specs.Load.{first_name, load_answer, paired, refuses}
use Rattle.pef_tool.specs.Answers.Faults.{fault_answer}
use Rattle.pef_faults.specs.declared.fault.Fault.TheVariants.{OutOfMemory}
use Rattle.pef_tool.proofs.OutcomeLemmas.{load_refuses}
use Rattle.pef_tool.proofs.LoadLemmas.{first-is, lacks-all, root-loads, some-files, were-length}
use Rattle.pef_tool.proofs.load.load_files.Goals as goal

abbrev items : Vec ℕ Global → List ℕ
items bytes = bytes.items

pub returns-in-Err : goal.returns-in-Err
returns-in-Err g c =
    let why = c.in-Err.fault in
    let refused = load_refuses _ c.args.files.now c.read_files.new.files (map named_path c.args.named.now) why c.in-Err.ensures.refused in
    (fault_answer why, (refuses why, refused, refl), c.deliver-in-Err.ensures)

pub store_of-requires-clause-each : goal.store_of-requires-clause-each
store_of-requires-clause-each g c =
    let port : FilesPort _ = record { state = g.F.Files.state; reason = g.F.Files.reason; was_read = g.F.Files.was_read; was_written = g.F.Files.was_written } in
    let named = c.args.named.now in
    let contents = c.in-Ok.contents.items in
    let same = were-length port c.args.files.now c.read_files.new.files (map named_path named) (map items contents) c.in-Ok.ensures.read in
    ap length c.as_slice-contents.ensures.value ∙ sym (length-map contents items) ∙ same ∙ length-map named named_path

pub returns-in_default : goal.returns-in_default
returns-in_default g c =
    let port : FilesPort _ = record { state = g.F.Files.state; reason = g.F.Files.reason; was_read = g.F.Files.was_read; was_written = g.F.Files.was_written } in
    let named = map named_path c.args.named.now in
    let contents = map items c.in-Ok.contents.items in
    let read = lacks-all port c.args.files.now c.read_files.new.files named contents c.in-Ok.ensures.read in
    (fault_answer OutOfMemory, (refuses OutOfMemory, inl (length named, contents, read), refl), c.deliver-in_default.ensures)

pub returns : goal.returns
returns g c =
    let port : FilesPort _ = record { state = g.F.Files.state; reason = g.F.Files.reason; was_read = g.F.Files.was_read; was_written = g.F.Files.was_written } in
    let stream = g.W.Sink.stream in
    let named = c.args.named.now in
    let contents = map items c.in-Ok.contents.items in
    let store : c.in-Ok-store_of.store ≡ paired (map named_path named) contents = c.in-Ok-store_of.ensures ∙ ap (λ (vs : List (Vec ℕ Global)). paired (map named_path named) (map items vs)) c.as_slice-contents.ensures.value in
    let some : 0 < length named = some-files named c.is_empty.result c.is_empty.ensures c.if-is_empty.false in
    let name : c.as_bytes.result.now ≡ first_name (map named_path named) = c.as_bytes.ensures.value ∙ sym (first-is named _ some) in
    let ends = root-loads port c.args.files.now c.read_files.new.files (map named_path named) contents c.deliver_root.ensures.0 c.in-Ok.ensures.read (rw (← store, ← name) c.deliver_root.ensures.1) in
    let P : Answer → Type 0 = λ answer. IsDelivered (stream c.args.out.now) (stream c.deliver_root.new.out) answer c.deliver_root.result in
    (load_answer ends.0, (ends.0, ends.1, refl), subst P ends.2 c.deliver_root.ensures.2)
