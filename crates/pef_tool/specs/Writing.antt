-- The answer of a command that writes files and then prints (docs/USAGE.md, `stubs` and `prepare`).
use Rattle.std.specs.Prelude.{◌≡◌, ◌⊎◌, List}
use Rattle.cfm_files.specs.Writing.{FileIs, StopsWriting, WereWritten}
use Rattle.pef_faults.specs.declared.fault.Fault.{Fault}
use Rattle.pef_ports.specs.Ports.{FilesPort}
use Rattle.pef_tool.specs.Answers.Answers.{Answer}
use Rattle.pef_tool.specs.Answers.Faults.{fault_answer}

-- all files were written, and the answer is that of a command that is done; or one of them isn't written, and nothing else is printed
abbrev pub WritesThenAnswers : {F : Type 0} → FilesPort F → F → F → List FileIs → Answer → Answer → Type 0
WritesThenAnswers port before after files done answer =
    (WereWritten port before after files × (answer ≡ done))
    ⊎ ((fault : Fault) × StopsWriting port before after files fault × (answer ≡ fault_answer fault))
