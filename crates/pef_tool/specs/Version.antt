-- The answer of `--version` (docs/USAGE.md, "The command line").
use Rattle.std.specs.Prelude.{◌≡◌, ◌⊎◌, codes}
use Rattle.pef_tool.specs.Answers.Answers.{Answer, answer_done}
use Rattle.pef_tool.specs.Answers.Faults.{fault_answer}
use Rattle.pef_faults.specs.declared.fault.Fault.TheVariants.{OutOfMemory}

-- the program's name and its version. Before it is known that they are asked for, an allocation may fail.
abbrev pub VersionAnswers : Answer → Type 0
VersionAnswers answer = (answer ≡ answer_done (codes "pef 0.1.0\n")) ⊎ (answer ≡ fault_answer OutOfMemory)
