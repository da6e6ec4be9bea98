-- The file was written, or it wasn't.
use Rattle.std.proofs.Common.{◌≡◌, List, ℕ, Result, Ok, Err, ap, inl, inr, refl, subst}
use Rattle.pef_faults.specs.declared.fault.Fault.TheVariants.{Unwritable}
use Rattle.pef_ports.specs.Ports.{FilesPort, Writes}
use Rattle.pef_ports.specs.declared.ports.FileFault.{FileFault}
use Rattle.pef_ports.specs.declared.ports.FileFault.TheVariants as file_fault
use Rattle.cfm_files.proofs.writing.write_file.Goals as goal

-- the same call, by the path and the bytes of the file
same_call : {F : Type 0} (port : FilesPort F) (before after : F) (path path' bytes bytes' : List ℕ) (result : Result (Unit {0}) FileFault)
    → path ≡ path' → bytes ≡ bytes' → Writes port before after path bytes result → Writes port before after path' bytes' result
same_call port before after path path' bytes bytes' result p b writes =
    let P : List ℕ → Type 0 = λ it. Writes port before after it bytes result in
    let Q : List ℕ → Type 0 = λ it. Writes port before after path' it result in
    subst Q b (subst P p writes)

pub returns-in-Ok-clause-written : goal.returns-in-Ok-clause-written
returns-in-Ok-clause-written g c =
    let port : FilesPort _ = record { state = g.F.Files.state; reason = g.F.Files.reason; was_read = g.F.Files.was_read; was_written = g.F.Files.was_written } in
    same_call port c.args.files.now c.write.new.self _ _ _ _ (Ok tt) c.path-path.ensures c.bytes.ensures (record { call = c.in-Ok.ensures.call; told = c.in-Ok.ensures.told })

pub returns-in-Err-Failed-clause-refused : goal.returns-in-Err-Failed-clause-refused
returns-in-Err-Failed-clause-refused g c =
    let port : FilesPort _ = record { state = g.F.Files.state; reason = g.F.Files.reason; was_read = g.F.Files.was_read; was_written = g.F.Files.was_written } in
    let call = rw c.in-Err-Failed.field-0-is at c.in-Err-Failed.ensures.call in
    let told = rw c.in-Err-Failed.field-0-is at c.in-Err-Failed.ensures.told in
    let writes = same_call port c.args.files.now c.write.new.self _ _ _ _ (Err file_fault.Failed) c.path-path.ensures c.bytes.ensures (record { call = call; told = told }) in
    inl (c.path-path.result, c.path-path.ensures, writes, ap (Unwritable c.path-path.result) c.reason-reason.ensures)

pub returns-in-Err-OutOfMemory-clause-refused : goal.returns-in-Err-OutOfMemory-clause-refused
returns-in-Err-OutOfMemory-clause-refused g c =
    let port : FilesPort _ = record { state = g.F.Files.state; reason = g.F.Files.reason; was_read = g.F.Files.was_read; was_written = g.F.Files.was_written } in
    let call = rw c.in-Err-OutOfMemory.field-0-is at c.in-Err-OutOfMemory.ensures.call in
    let told = rw c.in-Err-OutOfMemory.field-0-is at c.in-Err-OutOfMemory.ensures.told in
    inr (same_call port c.args.files.now c.write.new.self _ _ _ _ (Err file_fault.OutOfMemory) c.path-path.ensures c.bytes.ensures (record { call = call; told = told }), refl)
