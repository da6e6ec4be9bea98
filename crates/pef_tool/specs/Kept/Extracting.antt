-- How `extract` goes on once FILE was read.
use Rattle.std.specs.Borrow.{Bor}
use Rattle.std.specs.Prelude.{◌≡◌, ℕ, List, Result, Ok, Err, length}
use Rattle.pef_faults.specs.declared.fault.Fault.{Fault}
use Rattle.pef_faults.specs.declared.fault.Fault.TheVariants.{Unwritable, OutOfMemory}
use Rattle.pef_ports.specs.Ports.{FilesPort, Writes}
use Rattle.pef_ports.specs.declared.ports.FileFault.{FileFault}
use Rattle.pef_ports.specs.declared.ports.FileReason.{FileReason}
use Rattle.pef_ports.specs.declared.ports.FileFault.TheVariants as file_fault
use Rattle.pef_tool.specs.Answers.Answers.{Answer, answer_done}
use Rattle.pef_tool.specs.Answers.Faults.{fault_answer}
use Rattle.pef_tool.specs.Extract.{FindsIn, extracted_text}

-- the answer after a container was to be written
abbrev pub WrittenAnswer : List ℕ → List ℕ → FileReason → Result (Unit {0}) FileFault → Answer → Type 0
WrittenAnswer out container reason (Ok u) answer = answer ≡ answer_done (extracted_text (length container))
WrittenAnswer out container reason (Err file_fault.Failed) answer = (told : Bor (List ℕ)) × (told.now ≡ out) × (answer ≡ fault_answer (Unwritable told reason))
WrittenAnswer out container reason (Err file_fault.OutOfMemory) answer = answer ≡ fault_answer OutOfMemory

-- a container is written, or it is said why there is none
abbrev pub EndsWith : {F : Type 0} → FilesPort F → F → F → List ℕ → Result (List ℕ) Fault → Answer → Type 0
EndsWith port before after out (Ok container) answer =
    (result : Result (Unit {0}) FileFault) × Writes port before after out container result × WrittenAnswer out container (port.reason after) result answer
EndsWith port before after out (Err why) answer = (after ≡ before) × (answer ≡ fault_answer why)

-- the container is looked for before
abbrev pub ReadEnds : {F : Type 0} → FilesPort F → F → F → List ℕ → List ℕ → List ℕ → List ℕ → Answer → Type 0
ReadEnds {F} port before after path name out bytes answer =
    (found : Result (List ℕ) Fault) × (between : F) × FindsIn port before between path name bytes found × EndsWith port between after out found answer
