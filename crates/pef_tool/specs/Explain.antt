-- How the outcome of a run is explained, on an output of its own (docs/USAGE.md, "Output and status").
use Rattle.std.specs.Prelude.{◌≡◌, ℕ, List, ◌++◌, Option, None, Some, codes}
use Rattle.pef_ports.specs.Ports.{Stream}
use Rattle.pef_refusals.specs.Help.{help_of}
use Rattle.pef_tool.specs.Answers.Answers.{IsDelivered, answer_done}
use Rattle.pef_faults.specs.Notes.Notes.{note_text}
use Rattle.pef_tool.specs.declared.answers.outcome.Outcome.{Outcome}
use Rattle.pef_tool.specs.declared.answers.outcome.Outcome.TheVariants.{Done, SaidNo, Refused, Usage, OutputFailed}
use Rattle.pef_faults.specs.declared.notes.Explanation.{Explanation}

-- a text is written whole, or a prefix of it is written and then the output fails
abbrev pub IsNoted : Stream → Stream → List ℕ → Type 0
IsNoted before after text = (outcome : Outcome) × IsDelivered before after (answer_done text) outcome

-- the help for an error, if there is some, is written as a line, and then what else is known
abbrev pub NotesHelp : Option (List ℕ) → Explanation → Stream → Stream → Type 0
NotesHelp None note before after = after ≡ before
NotesHelp (Some text) note before after = IsNoted before after (text ++ note_text note)

-- the text that is written for an outcome. After `usage` it is some text by `clap`, and no more is specified.
abbrev pub Explains : Outcome → Stream → Stream → Type 0
Explains Done before after = after ≡ before
Explains SaidNo before after = after ≡ before
Explains (Refused number note) before after = NotesHelp (help_of number) note before after
Explains Usage before after = (text : List ℕ) × IsNoted before after text
Explains OutputFailed before after = IsNoted before after (codes "The standard output failed, so a part of the answer may be missing.\n")
