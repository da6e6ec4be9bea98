-- The files of the stubs are written.
use Rattle.std.proofs.Common.{List, map, subst, sym}
use Rattle.std.proofs.lemmas.Simd.{map-map}
use Rattle.cfm_files.specs.Writing.{FileIs}
use Rattle.pef_ports.specs.Ports.{FilesPort}
use Rattle.pef_tool.specs.Answers.Answers.{answer_done}
use Rattle.pef_tool.specs.Kept.StubFiles.{file_seen}
use Rattle.pef_tool.specs.WriteStubs.{stub_written, written_text}
use Rattle.pef_tool.specs.Writing.{WritesThenAnswers}
use Rattle.pef_tool.proofs.write_stubs.write_stubs.Goals as goal

pub returns : goal.returns
returns g c =
    let port : FilesPort _ = record { state = g.F.Files.state; reason = g.F.Files.reason; was_read = g.F.Files.was_read; was_written = g.F.Files.was_written } in
    let stubs = c.args.stubs.now in
    let answer = c.write_then_deliver.ensures.0 in
    let P : List FileIs → Type 0 = λ fs. WritesThenAnswers port c.args.files.now c.write_then_deliver.new.files fs (answer_done (written_text (map file_seen stubs))) answer in
    (answer, subst P (sym (map-map stub_written file_seen stubs)) c.write_then_deliver.ensures.1, c.write_then_deliver.ensures.2)
