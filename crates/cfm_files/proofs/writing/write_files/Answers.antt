-- Each file is written after the others.
use Rattle.pef_ports.specs.Ports.{FilesPort}
use Rattle.cfm_files.proofs.WritingLemmas.{all-written, writing-stops, written-next}
use Rattle.cfm_files.proofs.writing.write_files.Goals as goal

pub returns-in-Err-clause-refused : goal.returns-in-Err-clause-refused
returns-in-Err-clause-refused g c =
    let at = c.loop-file in
    let port : FilesPort _ = record { state = g.F.Files.state; reason = g.F.Files.reason; was_read = g.F.Files.was_read; was_written = g.F.Files.was_written } in
    let seen = g.T.FileToWrite.file in
    let file = c.file-item.result in
    let why = c.in-Err.fault in
    writing-stops seen port c.args.files.now at.files c.write_file.new.files c.args.written.now at.file-index file why c.loop-file-test.true c.file-item.is at.invariant c.in-Err.ensures.refused

pub loop-file-preserved : goal.loop-file-preserved
loop-file-preserved g c =
    let at = c.loop-file in
    let port : FilesPort _ = record { state = g.F.Files.state; reason = g.F.Files.reason; was_read = g.F.Files.was_read; was_written = g.F.Files.was_written } in
    let seen = g.T.FileToWrite.file in
    let file = c.file-item.result in
    written-next seen port c.args.files.now at.files c.write_file.new.files c.args.written.now at.file-index file c.loop-file-test.true c.file-item.is at.invariant c.in-Ok.ensures.written

pub returns-clause-written : goal.returns-clause-written
returns-clause-written g c =
    let at = c.loop-file in
    let port : FilesPort _ = record { state = g.F.Files.state; reason = g.F.Files.reason; was_read = g.F.Files.was_read; was_written = g.F.Files.was_written } in
    all-written g.T.FileToWrite.file port c.args.files.now at.files c.args.written.now at.file-index c.loop-file-test.false at.invariant
